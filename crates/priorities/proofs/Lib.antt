-- Laws that belong to no one function.
--     Parts      parts of a list
--     Comparing  weights as the code reads and compares them
--     Fewer      weights that use fewer words than they have
--     Halving    the two loops over halves, and stretches together
--     Ordering   what the public function gives
pub mod Parts
pub mod Comparing
pub mod Fewer
pub mod Halving
pub mod Ordering
