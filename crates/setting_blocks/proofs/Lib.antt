-- Laws that belong to no one function.
--     Fields     the words of a target in bytes, and lengths of what is written
--     Testing    the tests of the readers and of the writer
--     Ranges     the tests of versions and fields, as the code makes them
--     Words      words in bytes, as loops read and write them
--     Answers    what the readers and the writer answer and leave, row by row
--     Returning  what is written reads back
--     Meaning    what is read is what would be written
--     Damage     a changed byte makes a sum wrong
--     Promised   what is promised of evening settings
pub mod Fields
pub mod Testing
pub mod Ranges
pub mod Words
pub mod Answers
pub mod Returning
pub mod Meaning
pub mod Damage
pub mod Promised
