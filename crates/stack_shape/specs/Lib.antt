-- The definitions: slots and shapes, what they hold of, and how they cover and overlap one another.
pub mod Shape
pub mod Slot
