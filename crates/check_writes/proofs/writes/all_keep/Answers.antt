use Rattle.std.proofs.Common.{◌≡◌, ◌+◌, ℕ, List, true, false, drop, take, sym, subst, refl, arith, ◌↔◌}
use Rattle.abs_draft.specs.Ground.{GroundView}
use Rattle.abs_draft.specs.declared.data_write.DataWrite.{DataWrite}
use Rattle.abs_laws.specs.Writes.{AllKeep, KeepsCells}
use Rattle.abs_state.specs.declared.cell.KeptCell.{KeptCell}
use Rattle.address_map.specs.AddressMap.{MapView}
use Rattle.check_writes.proofs.CellLemmas.{keep_next, keep_none}
use Rattle.check_writes.proofs.writes.all_keep.Goals as goal

never : false ≡ true → ⊥
never e = cc

-- borrowed cells and a borrowed map give the same answer
lent : (g : GroundView) (map : MapView) (cells : List KeptCell) (armed : ℕ) (w : DataWrite) → map ≡ g.map → cells ≡ take armed g.cells →
    KeepsCells map cells w ↔ KeepsCells g.map (take armed g.cells) w
lent g map cells armed w same is =
    subst (λ (cs : List KeptCell). KeepsCells map cells w ↔ KeepsCells g.map cs w) is
    (subst (λ (m : MapView). KeepsCells map cells w ↔ KeepsCells m cells w) same ((λ k. k), λ k. k))

pub returns-then-not-keeps_cells : goal.returns-then-not-keeps_cells
returns-then-not-keeps_cells c =
    let g = c.args.ground.now in
    let step = keep_next g c.loop-write.armed c.loop-write.write-index c.args.writes.now c.write-item.result c.loop-write-test.true c.write-item.is in
    let same = lent g c.args.map.now c.armed.result.now c.loop-write.armed c.write-item.result c.requires.map c.armed.ensures in
    ((λ e. absurd (never e)), λ all. absurd (never (c.if-not-keeps_cells.ensures.1 (same.1 (step.0 (c.loop-write.invariant.0 all)).0))))

pub loop-write-preserved : goal.loop-write-preserved
loop-write-preserved c =
    let g = c.args.ground.now in
    let ws = c.args.writes.now in
    let n = c.loop-write.write-index in
    let step = keep_next g c.loop-write.armed n ws c.write-item.result c.loop-write-test.true c.write-item.is in
    let same = lent g c.args.map.now c.armed.result.now c.loop-write.armed c.write-item.result c.requires.map c.armed.ensures in (
      (λ all. subst (λ (m : ℕ). AllKeep g m (drop (n + 1) ws)) (sym c.armed_after-armed.ensures) (step.0 (c.loop-write.invariant.0 all)).1),
      λ left. c.loop-write.invariant.1 (step.1 (same.0 (c.if-not-keeps_cells.ensures.0 refl), subst (λ (m : ℕ). AllKeep g m (drop (n + 1) ws)) c.armed_after-armed.ensures left)),
    )

pub returns : goal.returns
returns c = (
  (λ e. c.loop-write.invariant.1 (keep_none c.args.ground.now c.loop-write.armed c.loop-write.write-index c.args.writes.now (omega (arith, c.loop-write-test.false)))),
  λ all. refl,
)
