-- Definitions of the commands that find annotations.
pub mod Inferring
