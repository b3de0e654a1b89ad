use Rattle.std.proofs.Common.{◌≡◌, List, ℕ, ap, subst, ◌∙◌, ◌++◌}
use Rattle.std.specs.Prelude.{codes}
use Rattle.std.specs.List.{flat_map}
use Rattle.std.proofs.lemmas.Result.{err_from_is_err_and}
use Rattle.texts.specs.Device.{FailsAmid, Puts}
use Rattle.command_verdicts.specs.Gathered.{Gathered}
use Rattle.command_verdicts.specs.Verdict.{nmi_text, proc_text, stack_text}
use Rattle.command_verdicts.proofs.GatheringLemmas.{fails_first, gathered_then, gathered_then_fails, put_at_last}
use Rattle.command_verdicts.proofs.table.write_table.Goals as goal

pub returns-in_err-gather_procs : goal.returns-in_err-gather_procs
returns-in_err-gather_procs g c =
    let p = err_from_is_err_and c.from_residual.result c.from_residual.ensures.1 in
    let certificate = c.args.certificate.now in
    let start : c.add.new.self ≡ codes "accepted\n" = c.add.ensures.value ∙ ap (λ (text : List ℕ). text ++ codes "accepted\n") c.new-gathered.ensures in
    let old = g.W.Sink.state c.args.out.now in
    let mid = g.W.Sink.state c.gather_procs.new.out in
    rw p.1
    (fails_first old mid (codes "accepted\n") (flat_map proc_text certificate.procs) (stack_text certificate ++ nmi_text certificate)
    (subst (λ text. FailsAmid old (text ++ flat_map proc_text certificate.procs) mid) start
    (subst (λ procs. FailsAmid old (c.add.new.self ++ flat_map proc_text procs) mid) c.procs.ensures c.in_err-gather_procs.ensures)))

pub returns-in_err-gather : goal.returns-in_err-gather
returns-in_err-gather g c =
    let p = err_from_is_err_and c.from_residual-in_err-gather.result c.from_residual-in_err-gather.ensures.1 in
    let certificate = c.args.certificate.now in
    let start : c.add.new.self ≡ codes "accepted\n" = c.add.ensures.value ∙ ap (λ (text : List ℕ). text ++ codes "accepted\n") c.new-gathered.ensures in
    let old = g.W.Sink.state c.args.out.now in
    let mid = g.W.Sink.state c.gather_procs.new.out in
    let new = g.W.Sink.state c.gather.new.out in
    let left = c.gather_procs.new.gathered in
    rw p.1
    (gathered_then_fails old mid new (codes "accepted\n") (flat_map proc_text certificate.procs) left (stack_text certificate ++ nmi_text certificate)
    (subst (λ text. Gathered old (text ++ flat_map proc_text certificate.procs) mid left) start
    (subst (λ procs. Gathered old (c.add.new.self ++ flat_map proc_text procs) mid left) c.procs.ensures c.in_ok-gather_procs.ensures))
    (fails_first mid new left (stack_text certificate) (nmi_text certificate)
    (subst (λ text. FailsAmid mid (left ++ text) new) c.stack_line.ensures c.in_err-gather.ensures)))

pub returns-in_err-gather-2 : goal.returns-in_err-gather-2
returns-in_err-gather-2 g c =
    let p = err_from_is_err_and c.from_residual-in_err-gather-2.result c.from_residual-in_err-gather-2.ensures.1 in
    let certificate = c.args.certificate.now in
    let start : c.add.new.self ≡ codes "accepted\n" = c.add.ensures.value ∙ ap (λ (text : List ℕ). text ++ codes "accepted\n") c.new-gathered.ensures in
    let old = g.W.Sink.state c.args.out.now in
    let mid = g.W.Sink.state c.gather_procs.new.out in
    let stack = g.W.Sink.state c.gather.new.out in
    let new = g.W.Sink.state c.gather-2.new.out in
    let left = c.gather_procs.new.gathered in
    let more = c.gather.new.gathered in
    rw p.1
    (gathered_then_fails old mid new (codes "accepted\n") (flat_map proc_text certificate.procs) left (stack_text certificate ++ nmi_text certificate)
    (subst (λ text. Gathered old (text ++ flat_map proc_text certificate.procs) mid left) start
    (subst (λ procs. Gathered old (c.add.new.self ++ flat_map proc_text procs) mid left) c.procs.ensures c.in_ok-gather_procs.ensures))
    (gathered_then_fails mid stack new left (stack_text certificate) more (nmi_text certificate)
    (subst (λ text. Gathered mid (left ++ text) stack more) c.stack_line.ensures c.in_ok-gather.ensures)
    (subst (λ text. FailsAmid stack (more ++ text) new) c.nmi_line.ensures c.in_err-gather-2.ensures)))

pub returns : goal.returns
returns g c =
    let certificate = c.args.certificate.now in
    let start : c.add.new.self ≡ codes "accepted\n" = c.add.ensures.value ∙ ap (λ (text : List ℕ). text ++ codes "accepted\n") c.new-gathered.ensures in
    let old = g.W.Sink.state c.args.out.now in
    let mid = g.W.Sink.state c.gather_procs.new.out in
    let stack = g.W.Sink.state c.gather.new.out in
    let nmi = g.W.Sink.state c.gather-2.new.out in
    let new = g.W.Sink.state c.put.new.out in
    let left = c.gather_procs.new.gathered in
    let more = c.gather.new.gathered in
    let last = c.gather-2.new.gathered in
    put_at_last old nmi new (codes "accepted\n" ++ (flat_map proc_text certificate.procs ++ (stack_text certificate ++ nmi_text certificate))) last c.put.result
    (gathered_then old mid nmi (codes "accepted\n") (flat_map proc_text certificate.procs) left (stack_text certificate ++ nmi_text certificate) last
    (subst (λ text. Gathered old (text ++ flat_map proc_text certificate.procs) mid left) start
    (subst (λ procs. Gathered old (c.add.new.self ++ flat_map proc_text procs) mid left) c.procs.ensures c.in_ok-gather_procs.ensures))
    (gathered_then mid stack nmi left (stack_text certificate) more (nmi_text certificate) last
    (subst (λ text. Gathered mid (left ++ text) stack more) c.stack_line.ensures c.in_ok-gather.ensures)
    (subst (λ text. Gathered stack (more ++ text) nmi last) c.nmi_line.ensures c.in_ok-gather-2.ensures)))
    (subst (λ text. Puts nmi text c.put.result new) c.bytes.ensures.value c.put.ensures)
