-- Laws that belong to no one function.
--     Wanting      keep only overapproximates, suppress only underapproximates
--     Counting     counts of diagrams that a file holds
--     Answering    what is done with a file
--     Fitting      both answers fit the buffers of the program
--     Supervising  what a supervisor is promised, from bytes to bytes
pub mod Wanting
pub mod Counting
pub mod Answering
pub mod Fitting
pub mod Supervising
