use Rattle.std.proofs.Common.{◌≡◌, ℕ, ◌<◌, ◌≤◌, ◌+◌, ◌-◌, ◌++◌, length, take, drop, sum_by, arith, ap, sym, ◌∙◌, rules}
use Rattle.std.proofs.lemmas.Grind.{common_steps}
use Rattle.std.specs.Vec.{with_items}
use Rattle.std.proofs.Math.Seq.{take-length}
use Rattle.std.proofs.lemmas.List.{length-drop, with_items_is}
use Rattle.std.proofs.lemmas.List.Sums.{sum_by_more_le}
use Rattle.call_graph.specs.Walk.{frame_at, frame_work, mark_work}
use Rattle.call_graph.proofs.StateLemmas.{close_lists, frame_read, Grouped}
use Rattle.call_graph.proofs.walk.Walk.close.Goals as goal

-- what closing a group reads and writes
record Left (c : goal.After-truncate-2) : Type 0 where
  last : length c.args.self.now.path.items - 1 + 1 ≡ length c.args.self.now.path.items
  met : c.truncate.new.self.items ≡ take (frame_at c.args.self.now.path.items (length c.args.self.now.path.items - 1)).place c.args.self.now.met.items
  path : c.truncate-2.new.self.items ≡ take (length c.args.self.now.path.items - 1) c.args.self.now.path.items
  order : c.extend_from_slice.new.self.items ≡ c.args.self.now.order.items ++ drop (frame_at c.args.self.now.path.items (length c.args.self.now.path.items - 1)).place c.args.self.now.met.items
  wrote : (with_items c.args.self.now.marks c.mark_group.new.marks).items ≡ c.mark_group.new.marks
  marks : Grouped c.args.self.now.marks.items c.mark_group.new.marks (drop (frame_at c.args.self.now.path.items (length c.args.self.now.path.items - 1)).place c.args.self.now.met.items) (length c.args.self.now.order.items)

left : (c : goal.After-truncate-2) → Left c
left c =
    let w = c.args.self.now in
    let path = w.path.items in
    let n : ℕ = length path - 1 in
    let some : 0 < length path = c.requires.some in
    let last : n + 1 ≡ length path = omega arith in
    let depth : c.len-last.result ≡ length path = search rules in
    let top = c.index.result.now in
    let value : top ≡ frame_at path n = frame_read path n (c.len-last.result - 1) top (ap (λ d. d - 1) depth) (omega arith) c.index.ensures in
    let place : top.place ≡ (frame_at path n).place = ap (λ f. f.place) value in
    let listed : c.extend_from_slice.new.self.items ≡ w.order.items ++ drop top.place w.met.items = grind (arith, common_steps) in
    let group : c.len-group.result ≡ length w.order.items = search rules in
    let tail : take (length w.met.items - (frame_at path n).place) (drop (frame_at path n).place w.met.items) ≡ drop (frame_at path n).place w.met.items =
    ap (λ k. take k (drop (frame_at path n).place w.met.items)) (sym (length-drop (frame_at path n).place w.met.items)) ∙ take-length (drop (frame_at path n).place w.met.items) in
    record {
      last = last;
      met = c.truncate.ensures.items ∙ ap (λ p. take p w.met.items) place;
      path = c.truncate-2.ensures.items ∙ ap (λ d. take (d - 1) path) depth;
      order = listed ∙ ap (λ p. w.order.items ++ drop p w.met.items) place;
      wrote = with_items_is w.marks c.mark_group.new.marks (omega arith);
      marks = rw (c.deref_mut.ensures.value, c.deref-2.ensures.value, group, place, tail) at c.mark_group.ensures.each;
    }

pub returns-clause-holds : goal.returns-clause-holds
returns-clause-holds c =
    let w = c.args.self.now in
    let l = left c in
    record {
      kept = rw (l.met, l.path, l.order, l.wrote) (close_lists c.args.calls.now w.marks.items c.mark_group.new.marks w.met.items w.path.items w.order.items (length w.path.items - 1)
          c.requires.holds.kept l.last c.requires.done c.requires.low l.marks);
      room = c.requires.holds.room;
    }

pub returns-clause-less : goal.returns-clause-less
returns-clause-less c =
    let w = c.args.self.now in
    let count : ℕ = length c.args.calls.now in
    let path = w.path.items in
    let n : ℕ = length path - 1 in
    let l = left c in
    let last : n + 1 ≡ length path = l.last in
    let inside : n < length path = omega arith in
    let fits : (frame_at path n).next ≤ count = c.requires.holds.kept.stands.in_range n inside in
    let marks : sum_by (mark_work count) c.mark_group.new.marks ≤ sum_by (mark_work count) w.marks.items = (rw c.deref_mut.ensures.value at c.mark_group.ensures.less) count in
    let shorter : sum_by (frame_work count) (take n path) + ((count + 1) - (frame_at path n).next) ≤ sum_by (frame_work count) path = sum_by_more_le (frame_work count) path n (record { place = 0; next = 0; low = 0 }) inside in
    rw (l.path, l.wrote) (omega arith)
