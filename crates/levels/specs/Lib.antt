-- For the code that walks a diagram by its variables; no promise to a caller names these.
--     Chains    the nodes of each variable, one after another
pub mod Chains
