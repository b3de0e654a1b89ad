pub mod Products
pub mod SumLemmas
pub mod CanonLemmas
pub mod Loops
pub mod MultipleLemmas
pub mod RewritingLemmas
