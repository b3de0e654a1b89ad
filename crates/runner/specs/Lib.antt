-- Definitions of runs of accepted ROMs, and of the texts that report them.
pub mod Input
pub mod Leads
pub mod Machine
pub mod Output
pub mod Player
pub mod Playing
pub mod Stretch
pub mod Turns
-- Definitions of lower crates, passed on.
pub use Rattle.cert_checker.specs.Certified
