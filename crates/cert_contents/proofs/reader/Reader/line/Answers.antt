use Rattle.std.proofs.Common.{Some, subst, ap, ◌∙◌}
use Rattle.cert_lines.specs.Read.{ReadsLine}
use Rattle.cert_lines.specs.declared.reading.ReadLine.TheVariants.{Whole, Crowded}
use Rattle.cert_form.specs.Reader.{IsProgress}
use Rattle.texts.specs.Fields.{fields_in}
use Rattle.cert_contents.proofs.LineLemmas.{takes_whole, takes_crowded}
use Rattle.cert_contents.proofs.reader.Reader.line.Goals as goal

pub returns-in-Some-Whole-clause-line : goal.returns-in-Some-Whole-clause-line
returns-in-Some-Whole-clause-line c =
    let text = c.args.text.now in
    let line = c.in-Some-Whole.line in
    let version = ap (λ r. r.draft.version) c.self-inside.view_is ∙ ap (λ p. p.contents.version) c.self.view_is in
    let read = subst (λ v. ReadsLine v (fields_in text) (Some (Whole line))) version
    (rw c.in-Some-Whole.field-0-is at c.in-Some-Whole.ensures) in
    takes_whole c.args.self.now c.take.new.self text line c.take.result read c.take.ensures.line

pub returns-in-Some-Crowded-clause-line : goal.returns-in-Some-Crowded-clause-line
returns-in-Some-Crowded-clause-line c =
    let text = c.args.text.now in
    let old = c.args.self.now in
    let place = c.in-Some-Crowded.place in
    let version = ap (λ r. r.draft.version) c.self-inside.view_is ∙ ap (λ p. p.contents.version) c.self.view_is in
    let read = subst (λ v. ReadsLine v (fields_in text) (Some (Crowded place))) version
    (rw c.in-Some-Crowded.field-0-is at c.in-Some-Crowded.ensures) in
    takes_crowded (Unit {0}) old old text place c.crowded.result (subst IsProgress c.self.view_is c.self.invariant) read c.crowded.ensures
