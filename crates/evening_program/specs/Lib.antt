-- What a reader must believe of the program `shrink_stored`.
pub mod Program
