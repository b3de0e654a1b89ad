-- The lemmas: bytes spell one thing only, and an instruction lies in the ROM.
pub mod DecodedLemmas
