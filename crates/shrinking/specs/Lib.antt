-- What a reader must believe of shrinking a file.
--     Shrinking   what is done, and the bytes of both channels
--     Supervised  what is promised of it, from bytes to bytes
pub mod Shrinking
pub mod Supervised
