use Rattle.std.proofs.Common.{◌≡◌, ◌+◌, ◌≤◌, ℕ, true, false, drop, length, sym, subst, refl, arith, ◌∙◌}
use Rattle.abs_draft.specs.Ground.{may_enable}
use Rattle.check_writes.specs.Writes.{FindsArmed}
use Rattle.check_writes.proofs.CellLemmas.{find_next, find_none}
use Rattle.check_writes.proofs.writes.find_armed.Goals as goal
use Rattle.check_writes.proofs.writes.find_armed.Goals.{else-from-count-via-then-from-count+else-may_enable, else-from-count-via-else-from-count}

never : false ≡ true → ⊥
never e = cc

pub returns-then-may_enable : goal.returns-then-may_enable
returns-then-may_enable c =
    let g = c.args.ground.now in
    let step = find_next g c.loop-write.armed c.loop-write.write-index c.args.writes.now c.write-item.result c.loop-write-test.true c.write-item.is in (
      (λ e. absurd (never e)),
      λ all.
          let armed : length g.cells ≤ c.loop-write.armed = (step.0 (c.loop-write.invariant.0 all)).0 (sym c.if-may_enable.ensures) in
          absurd (omega (arith, armed, c.from.ensures, c.requires.count, c.if-from-count.true)),
    )

pub loop-write-preserved : goal.loop-write-preserved
loop-write-preserved c =
    let g = c.args.ground.now in
    let ws = c.args.writes.now in
    let n = c.loop-write.write-index in
    let step = find_next g c.loop-write.armed n ws c.write-item.result c.loop-write-test.true c.write-item.is in
    let first : may_enable g.map c.write-item.result ≡ true → length g.cells ≤ c.loop-write.armed = λ enables.
    elim c.else-from-count.branch [
      | else-from-count-via-then-from-count+else-may_enable w ↦ absurd (never (w.if-may_enable.ensures ∙ enables))
      | else-from-count-via-else-from-count w ↦ omega (arith, c.from.ensures, c.requires.count, w.if-from-count.false)
    ] in (
      (λ all. subst (λ (m : ℕ). FindsArmed g m (drop (n + 1) ws)) (sym c.armed_after-armed.ensures) (step.0 (c.loop-write.invariant.0 all)).1),
      λ left. c.loop-write.invariant.1 (step.1 (first, subst (λ (m : ℕ). FindsArmed g m (drop (n + 1) ws)) c.armed_after-armed.ensures left)),
    )

pub returns : goal.returns
returns c = (
  (λ e. c.loop-write.invariant.1 (find_none c.args.ground.now c.loop-write.armed c.loop-write.write-index c.args.writes.now (omega (arith, c.loop-write-test.false)))),
  λ all. refl,
)
