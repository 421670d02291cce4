-- What a reader must believe of the row of structures.
--     Row    the words of a row
pub mod Row
