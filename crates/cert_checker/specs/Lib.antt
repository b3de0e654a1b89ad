-- Definitions of acceptance, and of the properties that the runs of an accepted ROM are tested against.
pub mod Certified
pub mod CodeOf
pub mod Means
