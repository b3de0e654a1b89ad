pub mod BoundsLemmas
pub mod LineLemmas
pub mod FlagPartsLemmas
pub mod MigratingLemmas
pub mod PartsLemmas
pub mod PlaceLemmas
pub mod BoardLemmas
