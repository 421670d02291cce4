-- For the code inside: no promise to a caller names these.
--     Work       where the conditions of a pool are built anew, and what the functions ask and promise
pub mod Work
