-- Lemmas for the contracts of the writer.
mod RoutineLemmas
