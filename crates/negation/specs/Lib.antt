-- What a reader must believe of negation.
pub mod Negation
