-- What a reader must believe of the cases of test programs.
--     Lines    numbers in lines of text, and runs of equal words
pub mod Lines
