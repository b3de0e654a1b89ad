-- Definitions of reading a certificate in pieces, and of writing it.
pub mod Pieces
pub mod Writing
