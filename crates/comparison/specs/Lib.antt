-- What a reader must believe of the comparison.
--     Comparison   what is counted, what is shown, the refusals, and what is left in the room and in the table
--     Compares     what is promised of it, in the words of document 02
-- and, for the code inside, which no promise to a caller names:
--     Work         what is told from the table
pub mod Comparison
pub mod Compares
pub mod Work
