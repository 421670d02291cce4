-- What a reader must believe of numbers as text.
pub mod Digits
