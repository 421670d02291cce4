-- Laws that belong to no one function.
--     Words       words of a slice that a loop has passed
--     Tests       by cases on a test
--     Outcomes    an outcome is one
--     Numbers     what holds of every number of refusal
--     Count       counting the numbers that pass a test; some number does; the first that does
--     Reading     the path level by level
--     Tally       counting the lists of bits that pass a test
--     Meeting     the nodes that a path meets, level by level
--     Reaching    the test `reaches` says `Reach`
--     Marking     the search for reachable nodes
--     Breaks      the tests of checks 11 and 17
--     Faulty      8 to 10 by the first node with a fault
--     Rows        the returns of the checks are the rows of the verdict
--     Accepting   what an acceptance tells
--     Meaning     the verdict in document 01's words
--     Promised    demand 1
--     Entering    what the check tells an operation that begins with it
--     Parents     an acceptance without a search
pub mod Words
pub mod Tests
pub mod Outcomes
pub mod Numbers
pub mod Count
pub mod Reading
pub mod Tally
pub mod Meeting
pub mod Reaching
pub mod Marking
pub mod Breaks
pub mod Faulty
pub mod Rows
pub mod Accepting
pub mod Meaning
pub mod Promised
pub mod Entering
pub mod Parents
