-- Lemmas about a certificate's lines.
pub mod FieldLemmas
pub mod InjectiveLines
pub mod InjectiveRows
pub mod KeywordLemmas
pub mod PlainLines
pub mod RowFacts
pub mod RowLemmas
pub mod RowLists
pub mod ShortLines
pub mod SpellingLemmas
