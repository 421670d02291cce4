-- Laws that belong to no one function.
--     Calling    each of the returns of the operations
pub mod Calling
