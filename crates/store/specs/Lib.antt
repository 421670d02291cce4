-- What a reader must believe of the store.
--     Store      nodes, and how a function is built from them
-- and, for the code inside, which no promise to a caller names:
--     Build      a store under construction
--     Room       where it stands in the working room
pub mod Store
pub mod Build
pub mod Room
