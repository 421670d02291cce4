-- Laws of the store.
--     Store         nodes as words; look-up in a store, and stores that grow at the end
--     Canon         building: it only adds, building again adds nothing, and only the function's values count
--     Sound         stores that building keeps sound, in which the pointer stands for the function
--     Graph         building a node of a diagram: the recursion that code follows
--     Chains        look-up by chains of nodes with the same key
--     Tables        the store's words and the memo as tables
--     Zones         keys in range, what the terminals' words and a new node write
--     Joining       how a store begins, the search along a chain, and joining two children
--     Walking       the calls and returns of the walk
pub mod Store
pub mod Canon
pub mod Sound
pub mod Graph
pub mod Chains
pub mod Tables
pub mod Zones
pub mod Joining
pub mod Walking
