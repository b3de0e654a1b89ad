-- The lemmas: flags bit by bit, carries, and tables of all bytes.
pub mod BitTests
pub mod ByteTables
pub mod Carries
pub mod FlagsLemmas
pub mod RangeLemmas
pub mod WordCarries
