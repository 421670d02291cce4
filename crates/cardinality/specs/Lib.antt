-- What a reader must believe of the count as an f64.
--     Cardinality   the count, and what the operation answers
-- and, for the code inside, which no promise to a caller names:
--     Table         the floats noted in the working room
pub mod Cardinality
pub mod Table
