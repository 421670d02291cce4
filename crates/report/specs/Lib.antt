-- What a reader must believe of the report.
--     Report    the text of the report
--     Reported  what is promised of it
pub mod Report
pub mod Reported
