-- Laws that belong to no one function.
--     Flattening  the answers of the operations, laid flat
--     Outer       what the functions over a row of structures conclude once their calls have returned
pub mod Flattening
pub mod Outer
