-- Lemmas for the contracts of annotations.
pub mod CellLemmas
pub mod KeyLemmas
