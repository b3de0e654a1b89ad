pub mod GatheringLemmas
