use Rattle.std.proofs.Common.{SFits, w32, rules, refl, subst, arith}
use Rattle.std.proofs.lemmas.Int.{to_z-of_z}
use Rattle.loop_bounds.specs.Linear.{extended}
use Rattle.cert_fields.specs.Linear.{IsSum}
use Rattle.cert_fields.specs.Terms.{KeepsShort, term_of}
use Rattle.cert_fields.proofs.KeptLemmas.{too_early, kept_more}
use Rattle.cert_fields.proofs.linear.SoFar.add.Goals as goal

pub returns-then-rank-self : goal.returns-then-rank-self
returns-then-rank-self c = λ done keeps. too_early _ done _ (term_of (c.args.coefficient, c.args.variable)) keeps (omega arith)

pub returns : goal.returns
returns c = λ done keeps.
    let fits : SFits w32 c.args.coefficient = search rules in
    let keeps_short = subst (λ z. let next = extended done (term_of (z, c.args.variable)) in IsSum c.args.slots next → KeepsShort next c.with_term-self.result)
    (to_z-of_z w32 c.args.coefficient fits) (c.with_term-self.ensures _ done keeps.linear) in
    kept_more _ done _ (term_of (c.args.coefficient, c.args.variable)) keeps (omega arith) (c.if-not-is_below.ensures.0 refl) c.requires _ _ c.rank-rank.ensures keeps_short
