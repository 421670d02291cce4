-- What a reader must believe of reduction.
--     Reduce     the reduced diagram of a function, and of a diagram
--     Demand3    what is promised of it
--     Answer     what the code answers for any words
-- and, for the code inside, which no promise to a caller names:
--     Room       where it is built in the working room
pub mod Reduce
pub mod Demand3
pub mod Answer
pub mod Room
