-- Laws of the search for a size.
--     Stepping   the search, step by step
--     Early      the answers that take no search, and what a search begins with
pub mod Stepping
pub mod Early
