pub mod MarkupLemmas
pub mod PutLemmas
