pub mod Numbers
pub mod Bytes
pub mod Words
pub mod CarriedValues
pub mod Each
pub mod Slight
pub mod CarriedRanges
