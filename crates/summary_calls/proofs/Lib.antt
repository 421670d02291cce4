-- Laws that belong to no one function.
--     Keeping    each of the returns of the operations
pub mod Keeping
