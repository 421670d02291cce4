-- What a reader must believe of the program `shrink`.
pub mod Program
