-- Laws that belong to no one function.
--     Rows       a valuation's row is the bits of its number
--     Answering  what is done with two files
--     Promised   what is promised of comparing files, from bytes to bytes
pub mod Rows
pub mod Answering
pub mod Promised
