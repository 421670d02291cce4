-- What a reader must believe of cuts.
--     Constants  false and true as diagrams
--     Links      a diagram with its links sent elsewhere
--     Cut        cutting by a list, and what refuses a list or a target
--     Search     priorities, and cutting to a size or to a count
--     Met        the answer to a target that is met already
--     Sorted     what a sorted list without repeats is
--     Rules      what document 01 says of these answers, sentence by sentence, with no fuel
--     Demand2    what is promised of cuts
--     Nights     the examples of document 01
-- and, for the code inside, which no promise to a caller names:
--     Merge      merging sorted lists
pub mod Constants
pub mod Links
pub mod Cut
pub mod Search
pub mod Met
pub mod Sorted
pub mod Rules
pub mod Demand2
pub mod Nights
pub mod Merge
