-- Laws that belong to no one function.
--     Spelling   digits and texts as loops write them
--     Scanning   texts as loops read them
--     Numerals   exactly what is printed is parsed, as the number that was printed
pub mod Spelling
pub mod Scanning
pub mod Numerals
