-- Laws that belong to no one function.
--     Beside     what a pair is worth from the pairs that it goes to
--     Places     what stands at a place of the table, and what noting a count or a flag leaves
--     Adding     a pair's count from those of the pairs that it goes to
pub mod Beside
pub mod Places
pub mod Adding
