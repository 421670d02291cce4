-- Laws of the search for a count.
--     Walks      the rounds, each with its inner walk
--     Aims       the early answers, and what a search begins with
pub mod Walks
pub mod Aims
