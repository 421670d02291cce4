-- What the code inside says of itself; no promise to a caller names it.
--     Beside    a call with the first records of a row in words
pub mod Beside
