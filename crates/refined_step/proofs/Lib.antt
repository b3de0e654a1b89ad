pub mod Answered
pub mod Assembled
pub mod Flags
pub mod Instructions
pub mod NarrowedStack
pub mod OneNext
pub mod Refusals
pub mod Sharpened
