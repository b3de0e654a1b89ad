-- The definitions: words in bytes, the stack region, what moves and instructions do to the stack, and the clock.
pub mod Words
pub mod Region
pub mod Stackless
pub mod Uses
pub mod Board
pub mod Clock
pub mod ClockLaws
pub mod CommitsLaws
pub mod InstructionsLaws
pub mod MachineLaws
pub mod MovesLaws
pub mod WordsLaws
