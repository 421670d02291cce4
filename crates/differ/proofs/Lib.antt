-- Laws that belong to no one function.
--     Running  the buffers hold the whole of both answers
pub mod Running
