mod Moves
mod Found
pub mod Lie
