-- What the data writes of a row may do, and what an exit gives back.
pub mod Saved
pub mod Writes
