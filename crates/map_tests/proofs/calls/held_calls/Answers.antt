use Rattle.std.proofs.Common.{zero, suc, ◌≡◌, ℕ, ◌<◌, arith, subst, get_or, [], ◌∷◌}
use Rattle.call_graph.specs.declared.depth.Held.{Held}
use Rattle.map_tests.proofs.calls.held_calls.Goals as goal

abbrev Fits : Held → Type 0
Fits call = (call.caller < 4) × (call.callee < 4)

three : (a b d call : Held) → Fits a → Fits b → Fits d → (k : ℕ) → k < 3 → get_or (a ∷ b ∷ d ∷ []) k call ≡ call → Fits call
three a b d call fa fb fd zero h e = subst Fits e fa
three a b d call fa fb fd (suc zero) h e = subst Fits e fb
three a b d call fa fb fd (suc (suc zero)) h e = subst Fits e fd
three a b d call fa fb fd (suc (suc (suc k))) h e = absurd (omega arith)

pub returns : goal.returns
returns c = λ call there. three _ _ _ call (omega arith, omega arith) (omega arith, omega arith) (omega arith, omega arith) there.0 there.1 there.2
