-- What a reader must believe of block files.
--     File    the bytes of a file, and what reading and writing answer and leave
--     Files   what is promised of reading and writing
pub mod File
pub mod Files
