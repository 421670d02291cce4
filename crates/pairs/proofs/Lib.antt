-- Laws that belong to no one function.
--     Steps      what the steps of a pair answer
--     Chains     chains of places
--     Entries    the table of pairs
--     Adding     a pair is added
--     Levels     a step stays among the nodes and goes to a larger variable
--     Meeting    the walk over pairs
--     Walking    what each call of it may rest on, and each of its returns
--     Beginning  its beginning
--     Numbering  the pairs met are those reached
pub mod Steps
pub mod Chains
pub mod Entries
pub mod Adding
pub mod Levels
pub mod Meeting
pub mod Walking
pub mod Beginning
pub mod Numbering
