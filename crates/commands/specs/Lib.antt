-- Definitions of the commands.
pub mod Annotating
pub mod Checking
pub mod Migrating
pub mod Running
pub mod Steps
