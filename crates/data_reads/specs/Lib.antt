pub mod Reads
pub mod ReadsLieIn
