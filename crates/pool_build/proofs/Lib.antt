-- Laws that belong to no one function.
--     Gathering  the conditions of the slots, one after the other
--     Composing  all conditions anew, with a diagram among them or without
--     Replacing  what was built takes the place of what was there
--     Fetching   a condition read: built, copied and cleared away
pub mod Gathering
pub mod Composing
pub mod Replacing
pub mod Fetching
