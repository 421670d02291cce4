-- What a reader must believe of the program `convert`.
pub mod Program
