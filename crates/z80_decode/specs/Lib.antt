-- The definitions: the table of spellings with its codes, and the steps of the decoder.
pub mod Operands
pub mod Kinds
pub mod Codes
pub mod Spelling
pub mod Undocumented
pub mod UnprefixedPage
pub mod CbPage
pub mod EdPage
pub mod IndexPage
pub mod Decoding
