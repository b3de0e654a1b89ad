pub mod PayingLemmas
