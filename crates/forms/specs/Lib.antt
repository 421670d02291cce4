-- What a reader must believe of the two forms of a file.
--     Form   reading and writing by the form that is asked for
--     Forms  what is promised of either
pub mod Form
pub mod Forms
