-- Definitions of a certificate's lines.
pub mod BoardMaps
pub mod Keyword
pub mod Line
pub mod Proc
pub mod Read
pub mod Row
pub mod Version
