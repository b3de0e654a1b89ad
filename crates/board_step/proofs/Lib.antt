pub mod AtOnceLemmas
pub mod RangeLemmas
pub mod RepeatLemmas
pub mod RunLemmas
pub mod StateRangeLemmas
pub mod StepLemmas
pub mod SingleLemmas
