-- What a reader must believe of blocks.
pub mod Block
