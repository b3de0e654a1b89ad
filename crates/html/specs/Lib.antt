-- What is written as HTML.
pub mod Markup
