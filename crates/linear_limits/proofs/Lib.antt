pub mod SpanLemmas
pub mod LimitLemmas
