-- Definitions of the lines that report a run, and of how they follow from the events.
pub mod Lines
pub mod Told
pub mod Follows
