pub mod DeviceLemmas
pub mod LineLemmas
pub mod ToldLemmas
pub mod FollowLemmas
