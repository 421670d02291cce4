-- For the code inside: no promise to a caller names these.
--     Calls      what adding does once there is a pool and a diagram
pub mod Calls
