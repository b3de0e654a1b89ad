pub mod Values
pub mod KeptFlags
pub mod Operations
pub mod WordOperations
pub mod EachInstruction
pub mod True
pub mod OtherSides
