-- What a reader must believe of a request.
pub mod Request
