-- The definitions of drafts. The first line of each file says whether `Safe` depends on it (Trusted) or not (Helper).
pub mod Outside
pub mod Registers
pub mod Arithmetic
pub mod Draft
pub mod Room
