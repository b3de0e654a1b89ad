use Rattle.std.proofs.Common.{ap, sym, ◌∙◌}
use Rattle.address_map.specs.Starts.{is_start}
use Rattle.cert_lines.specs.declared.row.Row.{Row}
use Rattle.check_laws.specs.Profile.{has_row}
use Rattle.cert_checker.proofs.StartLemmas.{more_starts, none_taken}
use Rattle.cert_checker.proofs.accepted.starts_of.Goals as goal
use Rattle.cert_checker.proofs.accepted.starts_of.Goals.{in-Some, in_default}

pub loop-id-preserved : goal.loop-id-preserved
loop-id-preserved c =
    let rows = c.args.certificate.now.rows in
    let so_far = c.loop-id.invariant in
    λ address. elim c.match-row.branch [
      | in-Some w ↦
          ap (λ starts. is_start starts address) w.starts-is
          ∙ more_starts rows c.loop-id.id w.in-Some.row w.row-in-Some.inside.address (λ other. is_start c.loop-id.starts other) (λ other. is_start w.insert.new.self other) (sym c.row.ensures ∙ w.in-Some.is)
          (ap (λ (row : Row). row.address) w.row-in-Some.view_is) so_far w.insert.ensures.added w.insert.ensures.others address
      | in_default w ↦
          ap (λ starts. is_start starts address) w.starts-is ∙ so_far address ∙ ap (λ taken. has_row taken address) (sym (none_taken rows c.loop-id.id (sym c.row.ensures ∙ w.in_default.is)))
    ]
