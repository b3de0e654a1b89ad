-- The definitions: ranges, register pairs, and the abstract operations on ranges.
pub mod Domain
pub mod Range
pub mod RegPair
pub mod Sums
pub mod Logic
pub mod Pair
pub mod PairLaws
