-- What a reader must believe of weights.
--     Weighed    what the weights' operation answers, and what weights are numbers of
--     Listed     nodes in a list, and the sum of their weights
-- and, for the code inside, which no promise to a caller names:
--     Passes     the two passes over the nodes
pub mod Weighed
pub mod Listed
pub mod Passes
