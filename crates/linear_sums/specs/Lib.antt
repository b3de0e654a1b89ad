-- The definitions: sums, rewriting by effects, the byte form, and canons.
pub mod Bytes
pub mod Sum
pub mod Rewriting
pub mod Canon
