-- Definitions of the meaning of annotations.
pub mod Said
