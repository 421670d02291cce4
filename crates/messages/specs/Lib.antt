-- What a reader must believe of what `shrink` says.
pub mod Texts
