-- The definitions of moves. The first line of each file says whether `Safe` depends on it (Trusted) or not (Helper).
pub mod Moves
pub mod Operands
