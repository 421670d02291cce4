-- Laws that belong to no one function.
--     Adding     the sums as a loop makes them
--     Places     nodes in bytes, as a loop reads and writes them
--     Testing    the tests of a block, row by row
--     Front      lengths of what is written, and a block from its parts
--     Answering  what reading the block due answers and leaves
--     Meaning    what is read is what would be written
--     Written    a block that is written is taken, and its nodes come back
--     Enough     what follows a block changes nothing of its reading
pub mod Adding
pub mod Places
pub mod Testing
pub mod Front
pub mod Answering
pub mod Meaning
pub mod Written
pub mod Enough
