use Rattle.std.proofs.Common.{rules}
use Rattle.std.proofs.lemmas.Fn.{always_returns_same}
use Rattle.std.proofs.lemmas.List.Sorted.{IsNonDecreasingBy-from_sort}
use Rattle.symbols.proofs.symbols.Symbols.read.Goals as goal

pub invariant_of-result : goal.invariant_of-result
invariant_of-result c = IsNonDecreasingBy-from_sort (λ e. e.1.value) _ (c.in-Ok.ensures.sorted (λ e. e.1.value) (always_returns_same _ _ _ (λ a r f' k. search rules)))
