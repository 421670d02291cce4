-- What a reader must believe of counts.
--     Paths      paths from the root to node 1
--     Counted    what a count answers
--     Counting   that the counts are numbers of valuations and of paths
-- and, for the code inside, which no promise to a caller names:
--     Table      tables of numbers in lent words
--     Worth      what a node is worth, and the worths noted in the working room
pub mod Paths
pub mod Counted
pub mod Counting
pub mod Table
pub mod Worth
