-- Definitions of walks, of the longest walk, and of the invariants of the search for it.
pub mod Links
pub mod Table
pub mod Walks
