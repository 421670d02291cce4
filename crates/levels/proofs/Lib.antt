-- Laws that belong to no one function.
--     Chaining   the chains of each variable's nodes
pub mod Chaining
