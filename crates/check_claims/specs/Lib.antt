-- The definitions: the two rewritings, sums that are 0 by facts, what is claimed, and that it is true.
pub mod Source
pub mod Rewritings
pub mod Zeros
pub mod Claims
pub mod Truth
pub mod SeenLaws
pub mod RegisterLaws
pub mod SlightLaws
