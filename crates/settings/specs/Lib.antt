-- What a reader must believe of the program `settings`.
pub mod Program
