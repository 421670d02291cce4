-- What a caller in C or Rust sees of the answers.
--     Flat      an answer's cases as one struct
pub mod Flat
