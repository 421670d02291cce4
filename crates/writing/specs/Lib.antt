-- What a reader must believe of writing into a lent slice.
pub mod Writing
