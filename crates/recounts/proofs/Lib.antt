-- Laws of counts that are kept.
--     Left       what is left at a node, from its children
--     Passes     what each step of the pass over the nodes gives
--     Counting   what the public functions give
--     Turned     the counts of the negation, from the diagram's
pub mod Left
pub mod Passes
pub mod Counting
pub mod Turned
