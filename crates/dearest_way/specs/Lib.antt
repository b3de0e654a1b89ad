-- Definitions of the dearest way of a procedure.
pub mod Along
pub mod Arrivals
pub mod Worth
