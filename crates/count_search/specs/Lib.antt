-- What the search for a count asks and works with; no promise to a caller names these.
pub mod Rounds
