-- The table of reasons for a refusal, and the definition of acceptance.
pub mod Acceptance
pub mod Saved
pub mod Stack
pub mod Table
