-- What a reader must believe of node files.
--     NodeFile   the bytes of a file, and what reading and writing answer and leave
--     NodeFiles  what is promised of reading and writing
pub mod NodeFile
pub mod NodeFiles
