-- Laws that belong to no one function.
--     Records    a number of a record is changed
--     Places     nodes counted place by place
--     Stamps     the walk from a slot's root
--     Turns      slots counted one after the other
pub mod Records
pub mod Places
pub mod Stamps
pub mod Turns
