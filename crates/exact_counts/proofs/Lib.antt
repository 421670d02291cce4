-- Laws that belong to no one function.
--     Descent     what each step of the walk over the nodes gives
--     Answers     the whole, and what the public functions answer
pub mod Descent
pub mod Answers
