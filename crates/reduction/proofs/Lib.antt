-- Laws of reduction.
--     Reached       what is added is reached from the pointer, which is then the last node
--     Numbering     what is built is numbered on the way back, low branch first
--     Rooted        reduction is building the root of a diagram
--     Count         counting marks
--     Fewest        the store has no more nodes than the diagram
--     Only          no other array is reduced
--     Canonical     what is promised of reduction
--     Answering     how the walk starts, and what is left in output and room
--     Reducing      from the check to the answer
pub mod Reached
pub mod Numbering
pub mod Rooted
pub mod Count
pub mod Fewest
pub mod Only
pub mod Canonical
pub mod Answering
pub mod Reducing
