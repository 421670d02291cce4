-- Laws that belong to no one function.
--     Small     the words of a diagram are words of 32 bits
--     Laws      what a file that is written or read has passed; the records of the two forms as one
--     Promised  what is promised of either form
pub mod Small
pub mod Laws
pub mod Promised
