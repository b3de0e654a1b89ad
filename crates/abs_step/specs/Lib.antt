-- The definitions of the abstract step: successors, what they keep, and reasons.
pub mod Contained
pub mod Reason
pub mod Successors
