-- Laws that belong to no one function.
--     Near        whole numbers, rounded
--     Wholes      floats that are whole numbers, scaled and added
--     Counts      the f64 count of every node: whole, and exact up to 2 ^ 53
--     Bits        bits of floats
--     Steps       what each step of the walk over the nodes gives
--     Answers     the whole count, and what the public function answers
pub mod Near
pub mod Wholes
pub mod Counts
pub mod Bits
pub mod Steps
pub mod Answers
