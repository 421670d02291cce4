-- Laws that belong to no one function.
--     Alike   words compared byte by byte
--     Asking  a request from its words
--     Long    words longer than the buffer for them
pub mod Alike
pub mod Asking
pub mod Long
