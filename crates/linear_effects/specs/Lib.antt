-- The definitions: the linear effects of instructions, the sharper ranges, and when they are true.
pub mod Windows
pub mod Bits
pub mod ByteEffects
pub mod WordEffects
pub mod Effects
pub mod Carried
