-- The definitions of abstract states: when they hold, how they change, cover and join.
pub mod Cell
pub mod CellLaws
pub mod Covers
pub mod CutLaws
pub mod Entries
pub mod Fact
pub mod Holds
pub mod Mode
pub mod Restricting
pub mod Pairs
pub mod Registers
pub mod Seen
pub mod Stack
pub mod Variables
