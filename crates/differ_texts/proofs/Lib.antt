-- Laws that belong to no one function.
--     Rows     a row gone through bit by bit
--     Fitting  what is written fits the buffers of the program
pub mod Rows
pub mod Fitting
