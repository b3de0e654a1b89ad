pub mod ChangeLemmas
pub mod CoverLemmas
pub mod TightenHolds
pub mod Told
