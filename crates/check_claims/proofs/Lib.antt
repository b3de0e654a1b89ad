pub mod Canons
pub mod Lists
pub mod Options
pub mod Tests
pub mod TruthLemmas
pub mod SeenLemmas
pub mod RegisterLemmas
pub mod OrLemmas
