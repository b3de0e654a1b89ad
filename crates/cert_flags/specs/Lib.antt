-- Definitions of the FLAG field of a row: flag parts, and which form a version's field has.
pub mod Parts
pub mod Kept
pub mod Flags
pub mod FactParts
