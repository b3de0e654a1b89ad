-- Definitions of what a certificate declares at an address, and of covering.
pub mod Arrival
pub mod Covering
pub mod Plainly
pub mod Program
pub mod Whole
