pub mod GroundLemmas
pub mod SpanLemmas
