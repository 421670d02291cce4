-- What the searches for a target share; no promise to a caller names these.
--     Trials     the searches' room, and what they find
--     First      marks of the first priorities
--     Answers    the answer, and how it is given
pub mod Trials
pub mod First
pub mod Answers
