-- The definitions: affine spaces, the values that lie on them, and what a step leaves.
pub mod Space
pub mod Step
pub mod Equality
