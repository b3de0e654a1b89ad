-- Definitions of a row's successors, of paying, and of walks.
pub mod Parts
pub mod Pays
pub mod Ways
