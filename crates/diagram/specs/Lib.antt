-- What a reader must believe of diagrams and of their check.
--     Limits      the numbers of document 01
--     Diagram     words as nodes, valuations, paths, holds; reached, ordered, accepted
--     Valuations  counting valuations; the nodes that a path meets
--     Reading     the same path level by level, for proofs
--     Verdict     the numbers of refusal, in the order in which the checks run
--     Demand1     what is promised of the check, in document 01's words
-- and, for the code of the check in the crates above, which no promise to a caller names:
--     Faults      the search for what is out of range
--     Marking     the search for reachable nodes in the working room
pub mod Limits
pub mod Diagram
pub mod Valuations
pub mod Reading
pub mod Refusal
pub mod Verdict
pub mod Demand1
pub mod Faults
pub mod Marking
