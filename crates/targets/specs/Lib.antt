-- What a reader must believe of cutting to a target.
--     Targets  what is answered
-- and, for the code inside, which no promise to a caller names:
--     Hits     what the functions inside ask and promise
pub mod Targets
pub mod Hits
