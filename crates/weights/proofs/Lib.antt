-- Laws that belong to no one function.
--     Dots       sums of products, and amounts that move
--     Levels     counting from a node's own variable on
--     Entries    tables of numbers in lent words: kept, emptied and copied
--     Ascent     the second pass
--     Visits     what weights say: of the terminals and the root, and of several nodes together
--     Both       count and weights together
pub mod Dots
pub mod Levels
pub mod Entries
pub mod Ascent
pub mod Visits
pub mod Both
