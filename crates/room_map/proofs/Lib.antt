-- Laws of the map.
--     Fits    the map is within the room that is asked for
pub mod Fits
