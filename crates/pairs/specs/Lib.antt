-- What a reader must believe of pairs.
--     Pairs      pairs of nodes, and those that are reached
--     Walks      that the number of pairs is the number of those reached
-- and, for the code inside, which no promise to a caller names:
--     Table      the table of the pairs met
pub mod Pairs
pub mod Walks
pub mod Table
