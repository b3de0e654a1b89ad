use Rattle.std.proofs.Common.{refl, sym, ◌∙◌}
use Rattle.std.proofs.lemmas.Bool.{false≢true}
use Rattle.cert_lines.proofs.FieldLemmas.{more, proc_ends, proc_of_kind}
use Rattle.cert_lines.proofs.reading.proc_of_fields.Goals as goal
use Rattle.cert_lines.proofs.reading.proc_of_fields.Goals.{else-is_empty-via-then-is_empty+else-is_of_kind, else-is_empty-via-else-is_empty}

pub returns-else-is_empty : goal.returns-else-is_empty
returns-else-is_empty c x form same =
    let seen = more _ _ _ _ _ c.in_ok-next.ensures c.in_ok-kind.ensures.1 (more _ _ _ _ _ c.in_ok-next-2.ensures c.in_ok-entry.ensures.1
    (more _ _ _ _ _ c.in_ok-next-3.ensures c.in_ok-rank.ensures.1 (more _ _ _ _ _ c.in_ok-next-4.ensures c.in_ok-depth.ensures.1
    (more _ _ _ _ _ c.in_ok-next-5.ensures c.in_ok-time.ensures.1 refl)))) in
    elim c.else-is_empty.branch [
      | else-is_empty-via-then-is_empty+else-is_of_kind w ↦
          false≢true (w.if-is_of_kind.ensures.1 (proc_of_kind _ _ _ _ _ _ x form c.in_ok-entry.ensures.0 c.in_ok-time.ensures.0 (sym seen ∙ same)))
      | else-is_empty-via-else-is_empty w ↦
          false≢true (w.if-is_empty.ensures.1 (proc_ends _ _ _ _ _ _ x form c.in_ok-entry.ensures.0 c.in_ok-time.ensures.0 (sym seen ∙ same)))
    ]
