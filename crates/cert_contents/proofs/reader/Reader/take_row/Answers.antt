use Rattle.std.proofs.Common.{◌<◌, length, subst, rules}
use Rattle.cert_lines.specs.declared.line.Line.TheVariants as lines
use Rattle.cert_form.specs.Reader.{IsProgress, MayFollow}
use Rattle.cert_form.proofs.OrderOfLists.{after_row}
use Rattle.cert_contents.proofs.reader.Reader.take_row.Goals as goal

pub returns-clause-line : goal.returns-clause-line
returns-clause-line c =
    let old = c.args.self.now in
    let h : IsProgress old = subst IsProgress c.self.view_is c.self.invariant in
    let may : MayFollow old (lines.Row c.args.row) = search rules in
    let room : length old.contents.rows < 65535 = search rules in
    let after = after_row old c.args.row h may room c.is_short.ensures in
    search (rules, after)

pub invariant_of-self-2 : goal.invariant_of-self-2
invariant_of-self-2 c =
    let old = c.args.self.now in
    let h : IsProgress old = subst IsProgress c.self.view_is c.self.invariant in
    let may : MayFollow old (lines.Row c.args.row) = search rules in
    let room : length old.contents.rows < 65535 = search rules in
    let after = after_row old c.args.row h may room c.is_short.ensures in
    search (rules, after.1)
