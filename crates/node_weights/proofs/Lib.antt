-- Laws of the entry points.
--     Answers    what they answer
pub mod Answers
