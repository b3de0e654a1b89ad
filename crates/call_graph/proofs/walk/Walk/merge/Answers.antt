use Rattle.std.proofs.Common.{◌≡◌, ℕ, ◌<◌, ◌+◌, ◌-◌, min, length, take, inl, inr, arith, ap, ◌∙◌, rules}
use Rattle.std.proofs.lemmas.Bool.{cases_eq}
use Rattle.call_graph.specs.Walk.{frame_at}
use Rattle.call_graph.specs.declared.walk.Visit.{Visit}
use Rattle.call_graph.proofs.StateLemmas.{merge_lists, frame_read}
use Rattle.call_graph.proofs.walk.Walk.merge.Goals as goal

pub returns-clause-holds : goal.returns-clause-holds
returns-clause-holds c =
    let w = c.args.self.now in
    let path = w.path.items in
    let n : ℕ = length path - 1 in
    let m : ℕ = n - 1 in
    let some : 0 < length path = c.requires.some in
    let last : n + 1 ≡ length path = omega arith in
    let inside : n < length path = omega arith in
    let root : (frame_at path 0).place ≡ 0 = c.requires.holds.kept.stands.root some in
    let low : (frame_at path n).low < (frame_at path n).place = c.requires.low in
    let deep : 0 < n = elim (cases_eq n 0) [ inl e ↦ let x : (frame_at path n).place ≡ (frame_at path 0).place = ap (λ k. (frame_at path k).place) e in absurd (omega arith) | inr ne ↦ omega arith ] in
    let before : m + 1 ≡ n = omega arith in
    let depth : c.len-last.result ≡ length path = search rules in
    let top = c.index.result.now in
    let value : top ≡ frame_at path n = frame_read path n (c.len-last.result - 1) top (ap (λ d. d - 1) depth) inside c.index.ensures in
    let parent = c.index-before.result.now in
    let parent_is : parent ≡ frame_at path m = frame_read path m (c.len-last.result - 1 - 1) parent (ap (λ d. d - 1 - 1) depth) (omega arith) c.index-before.ensures in
    let lower : c.min.result ≡ min parent.low top.low = search rules in
    let f : Visit = record { place = parent.place; next = parent.next; low = c.min.result } in
    let is : f ≡ record { place = (frame_at path m).place; next = (frame_at path m).next; low = min (frame_at path m).low (frame_at path n).low } =
    ap (λ l. record { place = parent.place; next = parent.next; low = l }) lower
    ∙ (ap (λ v. record { place = v.place; next = v.next; low = min v.low top.low }) parent_is ∙ ap (λ v. record { place = (frame_at path m).place; next = (frame_at path m).next; low = min (frame_at path m).low v.low }) value) in
    let cut : c.truncate.new.self.items ≡ take n path = c.truncate.ensures.items ∙ ap (λ d. take (d - 1) path) depth in
    record {
      kept = rw (cut, depth) (merge_lists c.args.calls.now w.marks.items w.met.items path w.order.items n m f
          c.requires.holds.kept last before c.requires.done low is);
      room = c.requires.holds.room;
    }
