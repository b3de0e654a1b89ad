-- What contracts see of texts of instructions.
pub mod Text
