-- Lemmas about walks and the search for the longest one.
mod EdgeLemmas
mod LinkLemmas
mod RoundLemmas
mod TableLemmas
mod WalkLemmas
