-- What the two walks share.
--     Copied     the lists between the turns
pub mod Copied
