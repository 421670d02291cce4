-- What a reader must believe of the summary beside a pool.
--     Summary      the summary worked out afresh
--     Kept         what adding and dropping answer and leave where a summary is kept, for any words
--     Summaries    what is promised of them, in document 02's words
--     Evenings     what is promised of any list of calls
pub mod Summary
pub mod Kept
pub mod Summaries
pub mod Evenings
