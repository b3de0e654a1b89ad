-- The definitions: what a potential pays over a step, and the two ways to rewrite what it leaves.
pub mod Paying
