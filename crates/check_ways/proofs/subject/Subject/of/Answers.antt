use Rattle.std.proofs.Common.{◌≡◌, Some, slice_get, subst, sym}
use Rattle.board_fetch.specs.Decoded.{StandsAt}
use Rattle.cert_lines.specs.declared.row.Row.{Row}
use Rattle.check_ways.specs.Ways.{behind_of}
use Rattle.check_ways.proofs.SubjectLemmas.{subject_at}
use Rattle.check_ways.proofs.subject.Subject.of.Goals as goal

pub invariant_of-result : goal.invariant_of-result
invariant_of-result c =
    let cert = c.args.certificate.now in
    let decoded = c.stands_at-decoded.result.0 in (
      subject_at c.args.rom.now cert c.args.id c.in_ok-row.row c.in_ok-proc.proc decoded (sym (c.in_ok-row.ensures {u = tt}))
          (subst (λ (r : Row). slice_get cert.procs r.proc ≡ Some c.in_ok-proc.proc) c.row-2.view_is (sym (c.in_ok-proc.ensures {u = tt})))
          (subst (λ (r : Row). StandsAt c.args.rom.now r.address decoded) c.row-2.view_is c.stands_at-decoded.ensures.stands),
      c.requires.map,
      c.requires.len,
      c.state-state.ensures,
      subst (λ (r : Row). c.stands_at-decoded.result.2 ≡ behind_of decoded r.address) c.row-2.view_is c.stands_at-decoded.ensures.behind,
      c.stands_at-decoded.ensures.len,
      c.none.ensures,
      tt,
    )
