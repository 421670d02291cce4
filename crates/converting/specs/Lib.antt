-- What a reader must believe of converting a file.
--     Converting  what the words ask for, what is done, and the bytes of both channels
--     Converted   what is promised of it, from bytes to bytes
pub mod Converting
pub mod Converted
