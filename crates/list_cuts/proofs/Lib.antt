-- Laws of the code that cuts by a list.
--     Checks     what the checks of a list say
--     Answering  the answer
pub mod Checks
pub mod Answering
