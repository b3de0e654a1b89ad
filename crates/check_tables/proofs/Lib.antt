pub mod ExitLemmas
pub mod LeftLemmas
pub mod WideLemmas
