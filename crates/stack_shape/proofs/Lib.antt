pub mod ShapeLemmas
pub mod Zipped
