-- Laws that belong to no one function.
--     Nodes       a node's worth from its children's, for valuations and for paths
--     Turns       the counts are numbers of valuations and of paths
--     Entries     tables of numbers in lent words
--     Shares      a node's number from its children's, in a table, and the whole's from its root's
--     Parts       a part of a room that is lent, and tables in it
pub mod Nodes
pub mod Turns
pub mod Entries
pub mod Shares
pub mod Parts
