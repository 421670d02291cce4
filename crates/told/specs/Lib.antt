-- For the code of the checks; no promise to a caller names this.
--     Told    18, and 16 and 19, from below or from above
pub mod Told
