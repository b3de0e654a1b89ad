-- The lemmas, lowest first.
pub mod Bytes
pub mod Brought
pub mod WordLaws
pub mod Laid
pub mod StacklessMoves
pub mod Traps
pub mod EachMove
pub mod EachInstruction
pub mod EachUse
pub mod Clocks
pub mod Times
