-- What a reader must believe of what `differ` writes.
pub mod Texts
