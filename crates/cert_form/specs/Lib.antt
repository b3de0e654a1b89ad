-- Definitions of certificates, of their texts, of the reader's progress, and of rows that share stored shapes.
pub mod Contents
pub mod Form
pub mod Migrated
pub mod Reader
pub mod Text
pub mod Rows
