-- Laws of cutting to a target.
--     Hitting    from what a search finds to what is answered
--     Already    targets that the diagram meets as it is given
--     Sizes      cutting to a size
--     Promised   what is promised of every call
pub mod Hitting
pub mod Already
pub mod Sizes
pub mod Promised
