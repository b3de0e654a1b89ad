pub mod CarryLemmas
pub mod Held
pub mod ExcludingLemmas
pub mod NarrowingLemmas
pub mod KeptByCuts
