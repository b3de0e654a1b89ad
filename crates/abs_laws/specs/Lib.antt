-- The definitions: when what is known between the moves of an instruction describes what the machine has done so far.
pub mod Fits
pub mod Lists
pub mod Cells
pub mod Writes
pub mod DataWritesLaws
pub mod MovesLaws
pub mod OutcomesLaws
pub mod RowsLaws
pub mod StackLaws
