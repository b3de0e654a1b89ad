use Rattle.std.proofs.Common.{sym, ap, refl, ◌∙◌, ◌≤◌, length, arith}
use Rattle.cert_form.specs.Contents.{CertificateView}
use Rattle.cert_form.specs.Rows.{changed_at}
use Rattle.cert_contents.specs.Bounds.{with_bounds_at, with_bounds}
use Rattle.cert_contents.specs.contracts.value.Unfinished.{the_view}
use Rattle.cert_form.proofs.ChangedLemmas.{changed_past, set_changed}
use Rattle.cert_contents.proofs.value.Unfinished.set_bounds.Goals as goal

pub returns-then-number-len : goal.returns-then-number-len
returns-then-number-len c =
    let procs = c.self.inside.procs.items in
    let change = with_bounds c.args.depth c.args.time in
    ap (λ all. record (the_view c.self.inside) { procs = all })
    (set_changed change procs c.from-number.result c.index_mut-proc.result.now _ (omega arith) c.index_mut-proc.ensures.value refl
    ∙ ap (λ number. changed_at change number procs) c.from-number.ensures)
    ∙ ap (λ (d : CertificateView). with_bounds_at d c.args.id c.args.depth c.args.time) c.self.view_is

pub returns-else-number-len : goal.returns-else-number-len
returns-else-number-len c =
    let procs = c.args.self.now.procs in
    let past : length procs ≤ c.args.id = omega (arith, ap (λ (d : CertificateView). length d.procs) c.self.view_is) in
    ap (λ all. record c.args.self.now { procs = all }) (sym (changed_past (with_bounds c.args.depth c.args.time) c.args.id procs past))
