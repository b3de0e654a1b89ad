-- The definitions: the conditions of an instruction, and when they are true.
pub mod OperandTerm
pub mod Linears
pub mod OtherSide
pub mod FlagChanges
pub mod NewConditions
pub mod Conditions
