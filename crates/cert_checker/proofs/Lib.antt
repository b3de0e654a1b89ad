pub mod StartLemmas
pub mod AcceptedLemmas
