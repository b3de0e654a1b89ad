pub mod InferLemmas
