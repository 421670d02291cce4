-- Laws that belong to no one function.
--     Answering  what reading and writing answer and leave
--     Promised   what is written reads back, and what is read would be written
pub mod Answering
pub mod Promised
