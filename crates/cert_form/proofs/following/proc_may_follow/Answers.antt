use Rattle.std.proofs.Common.{◌≡◌, length, None, sym, rules, arith}
use Rattle.cert_form.proofs.ProcLemmas.{called_stands}
use Rattle.cert_form.proofs.following.proc_may_follow.Goals as goal
use Rattle.cert_form.proofs.following.proc_may_follow.Goals.{then-procs-eq1+else-is_some, else-procs-eq1}

pub returns-in-Some-2 : goal.returns-in-Some-2
returns-in-Some-2 c =
    let alone : length c.args.procs.now ≡ 1 → c.args.budget ≡ None = elim c.if-procs-eq1.branch [
      | then-procs-eq1+else-is_some w ↦ λ _. search rules
      | else-procs-eq1 w ↦ λ one. absurd (omega arith)
    ] in
    let stands = called_stands c.args.budget c.args.procs.now c.in-Some-2.last.now c.args.proc c.requires (sym c.in-Some-2.ensures.value) alone in
    search (rules, c.is_called_behind.ensures, stands)
