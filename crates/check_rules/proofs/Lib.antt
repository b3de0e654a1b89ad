pub mod InOrder
pub mod Judged
pub mod Order
pub mod Steps
pub mod Versions
pub mod WaysOn
pub mod RepeatedLemmas
