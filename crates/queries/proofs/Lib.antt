-- Laws that belong to no one function.
--     SoleWalk    the walk of clauses and valuations
--     Listing     the nodes of each variable
--     Answers     what the queries answer, from the check on
--     Singletons  a yes of `is_valuation` means a count of exactly 1
--     Cubes       a yes of `is_clause` means a conjunction of literals; what a no means on a reduced array
pub mod SoleWalk
pub mod Listing
pub mod Answers
pub mod Singletons
pub mod Cubes
