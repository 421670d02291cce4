-- For the code inside: no promise to a caller names these.
--     Counting    nodes counted by variable
--     Walking     slots counted by variable
pub mod Counting
pub mod Walking
