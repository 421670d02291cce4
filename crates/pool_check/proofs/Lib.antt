-- Laws that belong to no one function.
--     Scans      the loops over all nodes
--     Marking    the marks of what slots and links name
--     Chaining   the chains along which equal nodes are looked for
--     Returns    the returns of the tests
pub mod Scans
pub mod Marking
pub mod Chaining
pub mod Returns
