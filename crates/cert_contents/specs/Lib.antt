-- Definitions of a certificate's parts, and of one with other bounds.
pub mod Bounds
pub mod Parts
