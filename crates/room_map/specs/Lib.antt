-- For the code of the searches; no promise to a caller names this.
--     Map    where each part of the working room begins
pub mod Map
