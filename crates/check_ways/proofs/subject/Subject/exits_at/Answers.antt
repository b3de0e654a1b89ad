use Rattle.std.proofs.Common.{sym, ◌∙◌, subst, ap}
use Rattle.check_ways.specs.Parts.{AreExitsOf, HasNoExit}
use Rattle.check_ways.specs.Ways.{SubjectView, nexts_in}
use Rattle.check_ways.proofs.ExitLemmas.{has_exits, may_leave_only, refused_has_none}
use Rattle.check_ways.proofs.subject.Subject.exits_at.Goals as goal

pub returns-then-not-may_leave : goal.returns-then-not-may_leave
returns-then-not-may_leave c =
    subst (λ (s : SubjectView). HasNoExit s.rom s.cert c.args.id) c.self.view_is
    (may_leave_only c.self.inside.rom.now c.self.inside.certificate.now c.args.id c.in_ok-row.row (sym (c.in_ok-row.ensures {u = tt}))
    (λ decoded stands. sym c.if-not-may_leave.true ∙ c.may_leave.ensures decoded stands))

pub returns-in-Ok : goal.returns-in-Ok
returns-in-Ok c =
    let of = (c.in_ok-other.ensures {u = tt}).some in
    subst (λ (s : SubjectView). AreExitsOf s.rom s.cert c.args.id c.in-Ok.nexts.items) c.self.view_is
    (has_exits c.self.inside.rom.now c.self.inside.certificate.now c.args.id c.in_ok-other.other c.in-Ok.nexts.items
    (record { is_subject = c.is_subject.ensures; same = (of.0, of.1); at = of.2 })
    (ap nexts_in (c.in-Ok.ensures {u = tt}).ok))

pub returns-in-Err : goal.returns-in-Err
returns-in-Err c =
    let of = (c.in_ok-other.ensures {u = tt}).some in
    subst (λ (s : SubjectView). HasNoExit s.rom s.cert c.args.id) c.self.view_is
    (refused_has_none c.self.inside.rom.now c.self.inside.certificate.now c.args.id c.in_ok-other.other c.in-Err.field-0
    (record { is_subject = c.is_subject.ensures; same = (of.0, of.1); at = of.2 })
    (c.in-Err.ensures {u = tt}).err)
