mod CheckLemmas
mod PlayedLemmas
mod RunLemmas
