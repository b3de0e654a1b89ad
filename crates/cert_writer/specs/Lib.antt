-- Definitions of a certificate with an NMI routine, and of two that say the same of the whole.
pub mod Routine
pub mod Same
