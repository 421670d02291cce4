-- Laws of the code that cuts by marks.
--     Rooms      a room that is given back, and rooms that agree from a place on
--     Marking    marks in the working room
--     Sending    the copy with sent links
--     Steps      what the small steps of the code give
--     Cutting    the cut by marks
pub mod Rooms
pub mod Marking
pub mod Sending
pub mod Steps
pub mod Cutting
