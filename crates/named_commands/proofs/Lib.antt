mod NamedLemmas
