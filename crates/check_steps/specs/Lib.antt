-- What comes with the step of a row: its conditions and linear effects, the effect back from a call, and restarts.
pub mod Told
pub mod Returned
pub mod Restarts
