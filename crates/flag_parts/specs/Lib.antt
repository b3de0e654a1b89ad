-- The definitions: what parts say of the flags, the carry that they tell, and what they leave of the ranges.
pub mod Parts
pub mod Carry
pub mod Excluding
pub mod Narrowing
