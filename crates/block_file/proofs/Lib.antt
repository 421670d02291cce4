-- Laws that belong to no one function.
--     Steps      reading block by block
--     Storing    the tests of the writer, and its blocks one after another
--     Reading    every file that is read is the file of its nodes
--     Returning  what is written reads back to the same nodes
--     Enough     reading only the first bytes answers as the whole input does
--     Promised   what is promised of block files
pub mod Steps
pub mod Storing
pub mod Reading
pub mod Returning
pub mod Enough
pub mod Promised
