-- What a reader must believe of cutting by a list.
--     Approximates  what is answered
-- and, for the code inside, which no promise to a caller names:
--     Listed        what it asks and promises
pub mod Approximates
pub mod Listed
