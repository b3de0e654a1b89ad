pub mod DraftLemmas
pub mod RangeLemmas
