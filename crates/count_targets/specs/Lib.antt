-- What is answered is in crates/targets. For the code inside, which no promise to a caller names:
--     Aims     what the functions inside ask and promise
pub mod Aims
