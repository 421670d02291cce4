-- What a reader must believe of a pool.
--     Pool       table and slots; when they are well formed; the conditions that they hold, and the one table of these
--     Answers    what adding, reading and dropping answer and leave, for any words
--     Pools      what is promised of them, in document 02's words
--     History    what is promised of any list of calls
-- and, for the code inside, which no promise to a caller names:
--     Walked     the part of the table that is walked
pub mod Pool
pub mod Answers
pub mod Pools
pub mod History
pub mod Walked
