-- The definitions of abstract drafts: what reads and writes do, the transfer function of each kind of move, and tests.
pub mod AfterMove
pub mod Ground
pub mod AbsDraft
pub mod Outcomes
pub mod Results
