-- The definitions of the machine. The first line of each file says whether `Safe` depends on it (Trusted) or not
-- (Helper).
pub mod Calm
pub mod CodeProfile
pub mod Context
pub mod Direct
pub mod Env
pub mod Hardware
pub mod Kind
pub mod Known
pub mod Memory
pub mod Profile
pub mod Reached
pub mod Reads
pub mod Repeat
pub mod Reset
pub mod ResetState
pub mod Run
pub mod Safe
pub mod State
pub mod Step
pub mod Trap
