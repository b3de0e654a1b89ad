-- Definitions of the command that explains refusals.
pub mod Explaining
