-- What a reader must believe of settings that take the place of words.
--     Words     what a stored setting asks for, and what is stored for some words
--     Evening   what `shrink_stored settings FILE` does
--     Storing   what the program `settings` does
--     Evenings  what is promised of both
pub mod Words
pub mod Evening
pub mod Storing
pub mod Evenings
