pub mod PiecesLemmas
pub mod ReadingLemmas
pub mod WritingLemmas
