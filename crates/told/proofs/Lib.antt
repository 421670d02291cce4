-- Laws of the checks of a target.
--     Opening    what they say of a count target
--     Somewhere  a diagram that holds for some valuation, by its links
--     Small      what they say of a size target
pub mod Opening
pub mod Somewhere
pub mod Small
