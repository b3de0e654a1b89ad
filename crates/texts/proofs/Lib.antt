pub mod DeviceLemmas
pub mod FieldLemmas
pub mod IncomingLemmas
pub mod NumberLemmas
pub mod PlainLemmas
