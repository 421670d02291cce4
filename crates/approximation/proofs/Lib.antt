-- Laws of cuts.
--     Constants  the constants hold always or never
--     Relink     links sent elsewhere
--     Send       cutting is sending links to a terminal and reducing
--     Cut        what is promised of a cut
--     Sort       sorting by halves
--     Members    the priorities are each non-terminal once, in order
--     Listing    what refuses a list or a count target, and what an acceptance tells
--     Sizing     what refuses a size target
--     Search     the searches obey their rules
--     Targets    answers to a target: inclusion, and the target met
--     Mirrored   the negation of a reduced array is reduced
--     Settling   targets that are met already
--     Rules      the answers are what document 01's sentences say, and nothing else is
--     Demand2    what is promised of cuts
--     Nights     the examples of document 01
pub mod Constants
pub mod Relink
pub mod Send
pub mod Cut
pub mod Sort
pub mod Members
pub mod Listing
pub mod Sizing
pub mod Search
pub mod Targets
pub mod Mirrored
pub mod Settling
pub mod Rules
pub mod Demand2
pub mod Nights
