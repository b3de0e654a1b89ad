use Rattle.std.proofs.Common.{◌≡◌, ℕ, ◌<◌, ◌+◌, ◌-◌, min, length, arith, ap, ◌∙◌, rules}
use Rattle.call_graph.specs.Walk.{frame_at}
use Rattle.call_graph.specs.declared.walk.Visit.{Visit}
use Rattle.call_graph.proofs.StateLemmas.{advance_lists, frame_read}
use Rattle.call_graph.proofs.walk.Walk.advance.Goals as goal

pub returns-clause-holds : goal.returns-clause-holds
returns-clause-holds c =
    let w = c.args.self.now in
    let path = w.path.items in
    let n : ℕ = length path - 1 in
    let some : 0 < length path = c.requires.some in
    let last : n + 1 ≡ length path = omega arith in
    let inside : n < length path = omega arith in
    let depth : c.len-last.result ≡ length path = search rules in
    let top = c.index-top.result.now in
    let value : top ≡ frame_at path n = frame_read path n (c.len-last.result - 1) top (ap (λ d. d - 1) depth) inside c.index-top.ensures in
    let low : c.min.result ≡ min top.low c.args.place = search rules in
    let f : Visit = record { place = top.place; next = top.next + 1; low = c.min.result } in
    let is : f ≡ record { place = (frame_at path n).place; next = (frame_at path n).next + 1; low = min (frame_at path n).low c.args.place } =
    ap (λ m. record { place = top.place; next = top.next + 1; low = m }) low ∙ ap (λ v. record { place = v.place; next = v.next + 1; low = min v.low c.args.place }) value in
    record {
      kept = rw depth (advance_lists c.args.calls.now w.marks.items w.met.items path w.order.items n c.args.place f
          c.requires.holds.kept last c.requires.edge c.requires.settled c.requires.reaches is);
      room = c.requires.holds.room;
    }
