-- Laws that belong to no one function.
--     Words      the words of the result
--     Answers    what the steps of the code give
--     Meaning    it holds exactly where the diagram doesn't, is accepted again, and negates to the diagram
pub mod Words
pub mod Answers
pub mod Meaning
