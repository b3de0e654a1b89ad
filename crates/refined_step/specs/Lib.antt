-- The definitions: conditions of instructions, narrowed and sharpened successors, and what the refined step keeps.
pub mod Told
pub mod Conditionals
pub mod Sharpening
pub mod Refined
pub mod Kept
