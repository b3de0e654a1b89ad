use Rattle.std.proofs.Common.{◌≡◌, ◌+◌, ◌<◌, min, ℕ, subst, arith}
use Rattle.affine.proofs.Taking.{RegistersTaken, SlotTaken, registers_next, slot_start, slot_next, all_taken}
use Rattle.affine.proofs.space.Space.taken.Goals as goal

pub loop-rank-preserved : goal.loop-rank-preserved
loop-rank-preserved c =
    registers_next c.args.self.now c.loop-rank.next c.take.new.self c.args.effect.now c.loop-rank.rank c.change_at.result (omega arith) (c.change_at.ensures (omega arith)) c.take.ensures.taken c.take.ensures.others c.take.ensures.count c.loop-rank.invariant

pub loop-rank-2-init : goal.loop-rank-2-init
loop-rank-2-init c =
    let end : c.loop-rank.rank ≡ 12 = omega arith in
    slot_start c.args.self.now c.loop-rank.next c.args.effect.now c.first_written-first.result c.first_written-first.ensures.low (subst (λ (r : ℕ). RegistersTaken c.args.self.now c.loop-rank.next c.args.effect.now r) end c.loop-rank.invariant)

pub loop-rank-2-preserved : goal.loop-rank-2-preserved
loop-rank-2-preserved c =
    let t = c.take-in-loop-rank-2 in
    let low : c.loop-rank-2.rank < 48 = omega arith in
    slot_next c.args.self.now c.loop-rank-2.next t.new.self c.args.effect.now c.loop-rank-2.rank c.change_at-in-loop-rank-2.result low (c.change_at-in-loop-rank-2.ensures low) t.ensures.taken t.ensures.others t.ensures.count c.first_written-first.result c.first_written-first.ensures.low c.loop-rank-2.auto.rank c.loop-rank-2.invariant

pub returns-clause-each : goal.returns-clause-each
returns-clause-each c =
    let first = c.first_written-first.result in
    let end : c.loop-rank-2.rank ≡ min (first + 3) 48 = omega arith in
    all_taken c.args.self.now c.loop-rank-2.next c.args.effect.now first c.first_written-first.ensures.low (subst (λ (r : ℕ). SlotTaken c.args.self.now c.loop-rank-2.next c.args.effect.now first r) end c.loop-rank-2.invariant) c.first_written-first.ensures.value
