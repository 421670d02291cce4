-- Laws that belong to no one function.
--     Afresh    the summary worked out, and compared with the one that is kept
pub mod Afresh
