use Rattle.std.proofs.Common.{refl, sym, ap, ◌∙◌}
use Rattle.std.proofs.lemmas.Bool.{false≢true}
use Rattle.run_lines.specs.Follows.{ends, goes_on}
use Rattle.run_lines.specs.declared.teller.Note.TheVariants.{Ends}
use Rattle.run_lines.proofs.teller.end_note.Goals as goal

pub returns-in-Some : goal.returns-in-Some
returns-in-Some c = λ kind before other. ends c.in-Some.began other c.in-Some.is c.if-returned.true c.if-after-began.true (ap Ends c.saturating_sub.ensures) refl

pub returns-in_default : goal.returns-in_default
returns-in_default c = λ kind before other. goes_on c.in-Some.began other c.in-Some.is (λ on. c.if-after-began.false) refl refl

pub returns-in_default-2 : goal.returns-in_default-2
returns-in_default-2 c = λ kind before other. goes_on c.in-Some.began other c.in-Some.is (λ on. absurd (false≢true (sym c.if-returned.false ∙ on))) refl refl
