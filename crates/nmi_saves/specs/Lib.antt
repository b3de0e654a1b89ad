-- The definition of what an NMI routine restores.
pub mod Lost
