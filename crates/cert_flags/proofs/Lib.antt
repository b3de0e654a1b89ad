-- Lemmas about the FLAG field of a row.
pub mod PartLemmas
pub mod PartsLemmas
pub mod FlagsLaws
pub mod FactPartsLaws
