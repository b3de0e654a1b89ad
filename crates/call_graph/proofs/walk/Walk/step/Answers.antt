use Rattle.std.proofs.Common.{List, ◌≡◌, ℕ, ◌-◌, ◌<◌, ap, sym, ◌∙◌, arith, rules, length, slice_index, inr, get_or, refl, subst}
use Rattle.std.proofs.lemmas.List.{get_or_default}
use Rattle.call_graph.specs.Calls.{Reaches}
use Rattle.call_graph.specs.Walk.{caller_at, callee_of_edge, frame_at, mark_at}
use Rattle.call_graph.specs.declared.walk.Mark.{Mark}
use Rattle.call_graph.specs.declared.walk.Mark.TheVariants.{Unseen, Met}
use Rattle.call_graph.proofs.CallLemmas.{calls_at, reaches_self, reaches_call}
use Rattle.call_graph.proofs.StateLemmas.{frame_read}
use Rattle.call_graph.proofs.walk.Walk.step.Goals as goal

mark_read : (marks : List Mark) (p q : ℕ) (x m : Mark) → p < length marks → q ≡ p → x ≡ get_or marks q x → x ≡ m → mark_at marks p ≡ m
mark_read marks p q x m inside same read is =
    get_or_default marks p Unseen x inside ∙ (ap (λ v. get_or marks v x) (sym same) ∙ (sym read ∙ is))

pub enter-requires-clause-known : goal.enter-requires-clause-known
enter-requires-clause-known c =
    let next : ℕ = c.index-top.result.now.next in
    (caller_at c.args.calls.now next, inr (calls_at c.args.calls.now next _ _ (omega arith) refl refl))

pub advance-requires-clause-reaches : goal.advance-requires-clause-reaches
advance-requires-clause-reaches c =
    let w = c.args.self.now in
    let path = w.path.items in
    let n : ℕ = length path - 1 in
    let some : 0 < length path = c.requires.some in
    let inside : n < length path = omega arith in
    let depth : c.len.result ≡ length path = search rules in
    let top = c.index-top.result.now in
    let value : top ≡ frame_at path n = frame_read path n (c.len.result - 1) top (ap (λ d. d - 1) depth) inside c.index-top.ensures in
    let callee : ℕ = callee_of_edge c.args.calls.now top.next in
    let fits : callee < length w.marks.items = search rules in
    let mark : mark_at w.marks.items callee ≡ Met c.in-Met.place =
    mark_read w.marks.items callee c.from.result c.index-2.result.now (Met c.in-Met.place) fits c.from.ensures c.index-2.ensures c.in-Met.is in
    let there : slice_index w.met.items c.in-Met.place ≡ callee = (c.requires.holds.kept.stands.met_is callee c.in-Met.place mark).1 in
    let placed : top.place < length w.met.items = rw (← value) at (c.requires.holds.kept.stands.placed n inside) in
    let caller : caller_at c.args.calls.now top.next ≡ slice_index w.met.items (frame_at path n).place =
    c.if-calls-top.false ∙ (c.index.ensures ∙ (get_or_default w.met.items top.place c.index.result.now 0 placed ∙ ap (λ f. slice_index w.met.items f.place) value)) in
    reaches_call c.args.calls.now _ _ (calls_at c.args.calls.now top.next _ _ (omega arith) caller (sym there))

pub advance-requires-in-Done-clause-reaches : goal.advance-requires-in-Done-clause-reaches
advance-requires-in-Done-clause-reaches c =
    let path = c.args.self.now.path.items in
    let met = c.args.self.now.met.items in
    let n : ℕ = length path - 1 in
    let some : 0 < length path = c.requires.some in
    let depth : c.len.result ≡ length path = search rules in
    let top = c.index-top.result.now in
    let value : top ≡ frame_at path n = frame_read path n (c.len.result - 1) top (ap (λ d. d - 1) depth) (omega arith) c.index-top.ensures in
    subst (λ v. Reaches c.args.calls.now (slice_index met (frame_at path n).place) (slice_index met v.place)) (sym value) (reaches_self c.args.calls.now (slice_index met (frame_at path n).place))
