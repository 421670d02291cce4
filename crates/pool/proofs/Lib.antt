-- Laws that belong to no one function.
--     Testing    the test `is_pool` says `WellFormed`
--     Walked     the part of the table that is walked is an ordered array; building from it is building from its nodes
--     Gathered   the conditions of the slots, and building them one after the other
--     Fewest     no ordered array with a node for each condition has fewer nodes than the table
--     Alike      the table goes by what the conditions hold for, and by nothing else
--     Tables     the table as a store with free places behind, and what its slots hold
--     Closed     the table of conditions is a well-formed pool
--     Rows       the verdicts, row by row
--     Verdicts   when a verdict is given
--     Promised   what is promised of a pool
--     Histories  what is promised of any list of calls
pub mod Testing
pub mod Walked
pub mod Gathered
pub mod Fewest
pub mod Alike
pub mod Tables
pub mod Closed
pub mod Rows
pub mod Verdicts
pub mod Promised
pub mod Histories
