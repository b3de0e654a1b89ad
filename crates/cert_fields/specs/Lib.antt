-- Definitions of a row's fields and of linears: their texts, and when they are in form.
pub mod Counted
pub mod Linear
pub mod VariableNames
pub mod Terms
pub mod Facts
pub mod FactsLaws
pub mod Flag
pub mod Kept
pub mod Names
pub mod Pair
pub mod Shape
