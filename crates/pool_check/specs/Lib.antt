-- For the code inside, which no promise to a caller names:
--     Marks     the marks of what slots and links name
--     Chains    the chains along which equal nodes are looked for
pub mod Marks
pub mod Chains
