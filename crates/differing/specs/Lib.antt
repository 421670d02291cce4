-- What a reader must believe of comparing two files.
--     Differing  what the words ask for, what is done, and the bytes of both channels
--     Differed   what is promised of it, from bytes to bytes
pub mod Differing
pub mod Differed
