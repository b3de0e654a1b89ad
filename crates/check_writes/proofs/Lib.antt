pub mod CellLemmas
pub mod Lists
