-- The definitions: the T-states of instructions and of a frame, and the use of ports.
pub mod Costs
pub mod Io
pub mod Budget
pub mod Frame
