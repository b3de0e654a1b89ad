-- The lemmas: tables of all operands, and that the decoder finds what the bytes spell.
pub mod Tables
pub mod EachOperand
pub mod Sound
pub mod Complete
pub mod Laws
