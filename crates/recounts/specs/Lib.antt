-- For the code that counts cuts; no promise to a caller names these.
--     Kept    what is left at each node when some are taken away, in the working room
pub mod Kept
