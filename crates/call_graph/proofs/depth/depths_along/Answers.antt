use Rattle.std.proofs.Common.{rules, ◌≡◌, ℕ, ◌+◌, ◌*◌, ◌<◌, ◌≤◌, length, slice_index, arith, refl, sym}
use Rattle.call_graph.proofs.DepthLemmas.{settle, settled_all, few, callee_place}
use Rattle.call_graph.proofs.depth.depths_along.Goals as goal

pub depth_of-requires-clause-fits : goal.depth_of-requires-clause-fits
depth_of-requires-clause-fits c = λ i h is.
    let inside : c.loop-proc.proc-index < length c.args.order.now = search rules in
    let z = callee_place c.args.own.now c.args.calls.now c.args.order.now c.requires.orders c.loop-proc.proc-index i inside h (sym is) in
    let small : length c.args.order.now ≤ 65536 = few 65536 c.args.order.now c.requires.orders.once (λ j l. let fits : slice_index c.args.order.now j < 65536 = search (rules, c.type_inv.order j) in fits) in
    let lower : z.0 < c.loop-proc.proc-index = z.1 in
    let low : slice_index c.loop-proc.depths.items (slice_index c.args.order.now z.0) ≤ 4294967296 * (z.0 + 1) = c.loop-proc.invariant.low z.0 lower in
    rw (c.deref.ensures.value, ← z.2) (omega arith)

pub loop-proc-preserved : goal.loop-proc-preserved
loop-proc-preserved c =
    let inside : c.loop-proc.proc-index < length c.args.order.now = search rules in
    let p : ℕ = slice_index c.args.order.now c.loop-proc.proc-index in
    rw c.from-at.ensures (settle c.args.own.now c.args.calls.now c.args.order.now c.loop-proc.proc-index c.loop-proc.depths.items p c.depth_of.result c.requires.orders c.loop-proc.invariant inside refl
    (rw c.from-at.ensures at c.depth_of.ensures.own)
    (rw c.deref.ensures.value at c.depth_of.ensures.held)
    (rw (c.from-at.ensures, c.deref.ensures.value) at c.depth_of.ensures.least)
    (rw c.deref.ensures.value at c.depth_of.ensures.low))

pub returns : goal.returns
returns c =
    let all : length c.args.order.now ≡ c.loop-proc.proc-index = search rules in
    settled_all c.args.own.now c.args.calls.now c.args.order.now c.loop-proc.proc-index c.loop-proc.depths.items c.requires.orders c.loop-proc.invariant all
