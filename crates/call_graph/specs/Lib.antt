-- The definitions: orders and cycles of calls, depths, and the invariants of the walk and the search.
pub mod Calls
pub mod Cycle
pub mod Depths
pub mod Walk
