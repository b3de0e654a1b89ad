use Rattle.std.proofs.Common.{◌↔◌, ℕ, IsTrue, subst, sym}
use Rattle.abs_step.specs.declared.next.NextKind.{NextKind}
use Rattle.abs_step.specs.declared.next.NextKind.TheVariants.{Exit, Jump}
use Rattle.check_ways.specs.Parts.{KindPays, PaysWay}
use Rattle.check_ways.specs.Pays.{PaysOut}
use Rattle.check_ways.specs.Ways.{WayView}
use Rattle.check_ways.proofs.paying.next_pays.Goals as goal

pub returns-in-Jump : goal.returns-in-Jump
returns-in-Jump c =
    let s = c.args.subject.now in
    let next = c.args.next.now in
    let exact : IsTrue c.pays_way.result ↔ KindPays s next Jump =
    subst (λ (w : WayView). IsTrue c.pays_way.result ↔ PaysWay s w) c.jump_way.ensures c.pays_way.ensures in
    subst (λ (k : NextKind). IsTrue c.pays_way.result ↔ KindPays s next k) (sym c.in-Jump.is) exact

pub returns-in-Exit : goal.returns-in-Exit
returns-in-Exit c =
    let s = c.args.subject.now in
    let next = c.args.next.now in
    let exact : IsTrue c.row_pays_out.result ↔ KindPays s next Exit =
    subst (λ (n : ℕ). IsTrue c.row_pays_out.result ↔ PaysOut s.row n) c.from.ensures c.row_pays_out.ensures in
    subst (λ (k : NextKind). IsTrue c.row_pays_out.result ↔ KindPays s next k) (sym c.in-Exit.is) exact
