pub mod BoardLemmas
pub mod FaultLemmas
pub mod Laws
pub mod MapLemmas
pub mod PageLemmas
pub mod RangeLemmas
pub mod ZoneLemmas
