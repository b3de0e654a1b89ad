-- Lemmas about the meaning of flag facts and flag parts.
mod MeaningLemmas
