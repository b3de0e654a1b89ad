use Rattle.std.proofs.Common.{arith, ap, refl, sym, subst, ◌∙◌}
use Rattle.std.proofs.lemmas.List.{take_all}
use Rattle.std.proofs.lemmas.Result.{err_from_is_err_and}
use Rattle.std.specs.List.{flat_map}
use Rattle.cert_lines.specs.Line.{fed_line}
use Rattle.cert_lines.specs.declared.line.Line.TheVariants as lines
use Rattle.cert_lines.specs.declared.row.Row.{Row}
use Rattle.texts.specs.Device.{FailsAmid, Takes}
use Rattle.certificate.proofs.WritingLemmas.{fails_at, list_text, none_missing, takes_more, takes_none}
use Rattle.certificate.proofs.writing.write_rows.Goals as goal
use Rattle.certificate.proofs.writing.write_rows.Goals.{in-Some+in_ok-put, in_default}

pub loop-id-init : goal.loop-id-init
loop-id-init g c = takes_none (g.W.Sink.state c.args.out.now)

pub returns-in_err-put : goal.returns-in_err-put
returns-in_err-put g c =
    let p = err_from_is_err_and c.from_residual.result c.from_residual.ensures.1 in
    let certificate = c.args.certificate.now in
    let is = c.bytes.ensures.value ∙ c.row_line.ensures ∙ ap (λ v. fed_line v (lines.Row c.in-Some.row)) c.version.ensures in
    let failed = fails_at (λ (row : Row). fed_line certificate.version (lines.Row row)) certificate.rows c.loop-id.id c.in-Some.row _ _ _ _
    (sym (c.in-Some.ensures {u = tt})) is c.loop-id.invariant c.in_err-put.ensures in
    let old = g.W.Sink.state c.args.out.now in
    let new = g.W.Sink.state c.put.new.out in
    rw p.1
    (subst (λ text. FailsAmid old text new) (list_text certificate.version certificate.version lines.Row certificate.rows (λ row. refl)) failed)

pub loop-id-preserved : goal.loop-id-preserved
loop-id-preserved g c =
    elim c.match-row.branch [
      | in-Some+in_ok-put w ↦
          let certificate = c.args.certificate.now in
          let is = w.bytes.ensures.value ∙ w.row_line.ensures ∙ ap (λ v. fed_line v (lines.Row w.in-Some.row)) w.version.ensures in
          rw w.out-is
          (takes_more (λ (row : Row). fed_line certificate.version (lines.Row row)) certificate.rows c.loop-id.id w.in-Some.row _ _ _ _
          (sym (w.in-Some.ensures {u = tt})) is c.loop-id.invariant w.in_ok-put.ensures)
      | in_default w ↦ absurd
          (none_missing c.args.certificate.now.rows c.loop-id.id (w.in_default.ensures {u = tt}) (omega arith))
    ]

pub returns : goal.returns
returns g c =
    let certificate = c.args.certificate.now in
    let old = g.W.Sink.state c.args.out.now in
    let new = g.W.Sink.state c.loop-id.out in
    let text = flat_map (λ (row : Row). fed_line certificate.version (lines.Row row)) in
    subst (λ bytes. Takes old bytes new)
    (ap text (take_all c.loop-id.id certificate.rows (omega arith))
    ∙ list_text certificate.version certificate.version lines.Row certificate.rows (λ row. refl)) c.loop-id.invariant
