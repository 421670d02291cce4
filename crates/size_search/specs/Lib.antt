-- What the search for a size asks; no promise to a caller names these.
pub mod Search
