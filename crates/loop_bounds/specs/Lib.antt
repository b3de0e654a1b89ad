-- The definitions: linears and their values, effects, exact tests, and tightening.
pub mod Variable
pub mod Linear
pub mod LinearLaws
pub mod Effect
pub mod Ranges
pub mod Bounds
pub mod Form
pub mod Signed
pub mod Rewritten
pub mod Tighten
