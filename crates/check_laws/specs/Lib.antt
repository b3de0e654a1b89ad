-- Definitions: when a row holds on the machine, chains of activations, and tests of an accepted ROM's runs.
pub mod Comes
pub mod RowHolds
pub mod Board
pub mod Chain
pub mod Placed
pub mod Steps
pub mod Profile
pub mod Bounded
pub mod Layout
-- Definitions of lower crates, passed on.
pub use Rattle.check_cover.specs.Covering
pub use Rattle.check_cover.specs.Program
pub use Rattle.check_cover.specs.declared.program.Callee
pub use Rattle.check_ways.specs.Pays
pub use Rattle.check_ways.specs.Ways
pub use Rattle.check_rules.specs.Acceptance
pub use Rattle.check_rules.specs.Table
pub mod AcceptedLaws
pub mod EntriesLaws
pub mod ExecutingLaws
pub mod LaidOutLaws
pub mod LandingLaws
pub mod OwingLaws
pub mod PayingLaws
pub mod ReturnsLaws
