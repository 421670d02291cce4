-- For the code that orders nodes; no promise to a caller names these.
--     Prioritised  what it asks for and gives
--     Halves       stretches of the room, and what becomes of them
pub mod Prioritised
pub mod Halves
