-- Definitions of the commands that show a program.
pub mod Viewing
