-- Laws that belong to no one function.
--     Answering  what is done with a file
--     Fitting    both answers fit the buffers of the program, and so do the words
--     Promised   what is promised of converting, from bytes to bytes
pub mod Answering
pub mod Fitting
pub mod Promised
