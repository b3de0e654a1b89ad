use Rattle.std.proofs.Common.{◌≡◌, ◌++◌, ◌∷◌, [], rules}
use Rattle.cert_fields.proofs.VariableLemmas.{only_high, only_low}
use Rattle.cert_fields.proofs.variable.split_part.Goals as goal

pub returns-then-last-eq104-clause-only : goal.returns-then-last-eq104-clause-only
returns-then-last-eq104-clause-only c = λ n part small is.
    let cut : c.args.text.now ≡ c.in-Some.digits.now ++ 104 ∷ [] = search rules in
    only_high n small _ _ part cut is

pub returns-then-last-eq108-clause-only : goal.returns-then-last-eq108-clause-only
returns-then-last-eq108-clause-only c = λ n part small is.
    let cut : c.args.text.now ≡ c.in-Some.digits.now ++ 108 ∷ [] = search rules in
    only_low n small _ _ part cut is
