-- Lemmas on integers, combinations and spans.
mod Ring
mod Combinations
mod SpanLemmas
mod Sums
mod Masks
mod Taking
mod EmptiedBelow
mod Releasing
mod StepLemmas
mod EqualityLemmas
mod ValueLemmas
