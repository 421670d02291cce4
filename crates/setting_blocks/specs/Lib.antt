-- What a reader must believe of evening settings.
--     Settings   the layout of a block, and what the readers and the writer answer and leave
--     Outlives   what is promised of them, over an upgrade
pub mod Settings
pub mod Outlives
