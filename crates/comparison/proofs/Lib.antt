-- Laws that belong to no one function.
--     Roots      what is counted, from what the pair of the roots is worth
--     Least      the smallest list of bits that passes a test
--     Search     the search for the smallest valuation
--     Answers    what is worked out in the table, and what is answered
--     Numbers    there is one number of things with a property
--     Promised   what is promised
pub mod Roots
pub mod Least
pub mod Search
pub mod Answers
pub mod Numbers
pub mod Promised
