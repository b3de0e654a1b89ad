pub mod CallLemmas
pub mod CycleLemmas
pub mod DepthLemmas
pub mod GroupLemmas
pub mod OrderLemmas
pub mod StateLemmas
pub mod WalkLemmas
pub mod SortedCalls
