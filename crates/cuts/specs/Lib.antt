-- For the code that cuts by marks; no promise to a caller names this.
--     Marks    marks and cuts in the working room
pub mod Marks
