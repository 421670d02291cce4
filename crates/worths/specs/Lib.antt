-- For the code inside, and for the comparison's; no promise to a caller names it.
--     Worth      what each pair is worth, as it stands in the table
pub mod Worth
