-- The definitions: the flags of each operation, and what they are made of.
pub mod Add
pub mod Bits
pub mod Block
pub mod Digits
pub mod Flags
pub mod Load
pub mod Logic
pub mod Rotate
pub mod Shift
pub mod Signed
pub mod Word
pub mod Words
