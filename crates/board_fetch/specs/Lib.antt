-- The definition of what is at an address of the ROM.
pub mod Decoded
