-- Definitions of the lines of a verdict.
pub mod Gathered
pub mod Verdict
pub mod WriterRefusals
