-- Laws that belong to no one function.
--     Differing  what is said of a number that no refusal has
--     Fitting    how long what is said can be
pub mod Differing
pub mod Fitting
