use Rattle.std.proofs.Common.{◌≡◌, ◌≤◌, leb, true, List, [], ◌∷◌, All, refl, unsigned_abs, rules}
use Rattle.std.specs.List.{list_all}
use Rattle.std.proofs.lemmas.List.Elements.{All-head, All-tail}
use Rattle.loop_bounds.specs.declared.linear.Term.{Term}
use Rattle.check_claims.proofs.laws.slight_effects_stay.Goals as goal

abbrev IsSmall : Term → Type 0
IsSmall t = unsigned_abs t.coefficient ≤ 256

all_small : (ts : List Term) → All IsSmall ts → list_all (λ t. leb (unsigned_abs t.coefficient) 256) ts ≡ true
all_small [] h = refl
all_small (t ∷ ts) h =
    let here = All-head IsSmall t ts h in
    let test : leb (unsigned_abs t.coefficient) 256 ≡ true = search rules in
    rw (test, all_small ts (All-tail IsSmall t ts h)) refl

pub returns : goal.returns
returns c = λ e small. rw (all_small e.linear.terms small) refl
