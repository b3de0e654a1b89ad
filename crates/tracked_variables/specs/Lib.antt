-- The definitions: the entries of vectors, and which variables an effect writes.
pub mod Vector
pub mod Written
