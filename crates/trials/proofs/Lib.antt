-- Laws of what the searches for a target share.
--     Readying   priorities and weights in the working room
--     Firsts     the cut by the first priorities
--     Giving     the answer kept, and given
--     Early      the answers that take no cut
pub mod Readying
pub mod Firsts
pub mod Giving
pub mod Early
