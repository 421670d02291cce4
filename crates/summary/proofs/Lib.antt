-- The proofs of what specs/ promises.
--     Counting    what working a summary out goes by: how many pass a test, ways, the words of the records
--     Agreeing    a summary agrees exactly where its words are those worked out afresh
--     Numbers     how many numbers pass a test is a number of things
--     Apart       different places of a table stand for different conditions
--     Depending   a live slot depends on a variable exactly where a way leads to a node that tests it
--     Rows        the verdicts, row by row, and when each is given
--     Renewing    what is kept after an addition or a drop
--     Fronts      a call on the first records of a row is the call on the whole row
--     Promised    what is promised of the summary
--     Calls       what is promised of any list of calls
pub mod Counting
pub mod Agreeing
pub mod Numbers
pub mod Apart
pub mod Depending
pub mod Rows
pub mod Renewing
pub mod Fronts
pub mod Promised
pub mod Calls
