-- What a reader must believe of the program `differ`.
pub mod Program
