-- Laws of cutting to a count. What it has in common with cutting to a size is in crates/targets.
--     Cleared    what was counted is cleared away
--     Counts     each return of the functions
pub mod Cleared
pub mod Counts
