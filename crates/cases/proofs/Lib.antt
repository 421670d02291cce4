-- Laws of the cases of test programs.
--     Reading    numbers in lines of text
--     Runs       runs of equal words
pub mod Reading
pub mod Runs
