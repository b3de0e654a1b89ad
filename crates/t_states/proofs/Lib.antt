-- The lemmas, lowest first.
pub mod CostLemmas
