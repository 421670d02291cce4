-- What a reader must believe of the small queries.
--     Queries    clauses and valuations by a walk; nodes for each variable; what a query answers
--     Clauses    what a yes and a no of the walk mean
pub mod Queries
pub mod Clauses
