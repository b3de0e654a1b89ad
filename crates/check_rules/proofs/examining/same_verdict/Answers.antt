use Rattle.std.proofs.Common.{◌≡◌, ◌∙◌, Result, Ok, Err, IfErr, sym}
use Rattle.cert_contents.proofs.MigratingLemmas.{in_version, same_migrated}
use Rattle.cert_form.specs.Migrated.{migrated_version}
use Rattle.check_rules.specs.declared.refused.Refused.{Refused}
use Rattle.check_rules.proofs.Versions.{accepted_before, refused_before}
use Rattle.check_rules.proofs.examining.same_verdict.Goals as goal

pub returns-clause-exact : goal.returns-clause-exact
returns-clause-exact c =
    let version = migrated_version c.args.first.now.version in
    let is : in_version version c.args.first.now ≡ c.args.second.now = same_migrated c.args.first.now c.is_in_form.ensures ∙ sym c.requires in (
      (λ ok. let a = c.examine.ensures.exact.0 ok in (accepted_before c.args.rom.now c.args.first.now c.args.second.now is a, a)),
      λ both. c.examine.ensures.exact.1 both.1,
    )

-- what holds of an error and is more
more : {T E : Type 0} (P Q : E → Type 0) → ((e : E) → P e → Q e) → (r : Result T E) → IfErr r P → IfErr r Q
more P Q weaker (Ok x) h = tt
more P Q weaker (Err e) h = weaker e h

pub returns-clause-refused : goal.returns-clause-refused
returns-clause-refused c =
    let version = migrated_version c.args.first.now.version in
    let is : in_version version c.args.first.now ≡ c.args.second.now = same_migrated c.args.first.now c.is_in_form.ensures ∙ sym c.requires in
    more _ _ (λ (r : Refused) h. (refused_before c.args.rom.now c.args.first.now c.args.second.now r.row r.address r.reason is h, h)) c.examine.result c.examine.ensures.refused
