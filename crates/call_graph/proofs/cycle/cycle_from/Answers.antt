use Rattle.std.proofs.Common.{refl, suc, sym, add-one, ◌≡◌, ℕ, ◌+◌, ◌<◌, ◌++◌, ◌∷◌, [], length, arith, ap, reverse, ◌∙◌, length-append}
use Rattle.std.proofs.lemmas.Grind.{common_steps}
use Rattle.std.proofs.lemmas.List.{append_assoc, reverse-append, length-reverse}
use Rattle.call_graph.specs.Cycle.{path_to, step_from, step_far, step_proc}
use Rattle.call_graph.proofs.CycleLemmas.{Trail, trail_cycle}
use Rattle.call_graph.proofs.cycle.cycle_from.Goals as goal

pub loop-place-preserved : goal.loop-place-preserved
loop-place-preserved c =
    let steps = c.args.steps.now in
    let place : ℕ = c.loop-place.place in
    let list = c.loop-place.list.items in
    let here : place < length steps = c.loop-place.invariant.inside in
    let some : 0 < place = c.loop-place-test.true in
    let lower : step_from steps place < place = c.requires.earlier place some here in
    let pushed : c.push.new.self.items ≡ list ++ step_proc steps place ∷ [] = grind (arith, common_steps) in
    let turned : reverse c.push.new.self.items ≡ step_proc steps place ∷ reverse list = ap reverse pushed ∙ reverse-append list (step_proc steps place ∷ []) in
    let longer : length c.push.new.self.items ≡ length list + 1 = ap length pushed ∙ length-append list (step_proc steps place ∷ []) in
    record {
      inside = omega arith;
      trail = λ calls start traced. rw turned (traced.called place some here, c.loop-place.invariant.trail calls start traced);
      long = λ calls start traced.
          let old : length list + step_far steps place ≡ step_far steps c.args.at = c.loop-place.invariant.long calls start traced in
          let far : step_far steps place ≡ step_far steps (step_from steps place) + 1 = traced.farther place some here in omega arith;
      path = λ calls start traced.
          let far : step_far steps place ≡ suc (step_far steps (step_from steps place)) = traced.farther place some here ∙ add-one (step_far steps (step_from steps place)) in
          let old : path_to steps (step_far steps place) place ++ reverse list ≡ path_to steps (step_far steps c.args.at) c.args.at = c.loop-place.invariant.path calls start traced in
          rw turned (sym (append_assoc (path_to steps (step_far steps (step_from steps place)) (step_from steps place)) (step_proc steps place ∷ []) (reverse list))
          ∙ ap (λ n. path_to steps n place ++ reverse list) (sym far) ∙ old);
    }

pub returns : goal.returns
returns c = λ calls start traced call.
    let steps = c.args.steps.now in
    let list = c.loop-place.list.items in
    let first : c.loop-place.place ≡ 0 = omega arith in
    let start_is : step_proc steps 0 ≡ start = traced.start_is in
    let pushed : c.push-2.new.self.items ≡ list ++ step_proc steps 0 ∷ [] = grind (arith, common_steps) in
    let turned : reverse c.push-2.new.self.items ≡ start ∷ reverse list =
    ap reverse pushed ∙ (reverse-append list (step_proc steps 0 ∷ []) ∙ ap (λ p. p ∷ reverse list) start_is) in
    let items : c.reverse.new.self.items ≡ start ∷ reverse list = c.reverse.ensures.items ∙ turned in
    let trail : Trail calls start (reverse list) (step_proc steps c.args.at) =
    rw (first, start_is) at (c.loop-place.invariant.trail calls start traced) in
    let near : step_far steps 0 ≡ 0 = traced.near in
    let far : length list + step_far steps 0 ≡ step_far steps c.args.at = rw first at (c.loop-place.invariant.long calls start traced) in
    let long : length (reverse list) ≡ length list = length-reverse list in
    let none : step_far steps c.loop-place.place ≡ 0 = ap (step_far steps) first ∙ near in
    let path : reverse list ≡ path_to steps (step_far steps c.args.at) c.args.at =
    ap (λ n. path_to steps n c.loop-place.place ++ reverse list) (sym none) ∙ c.loop-place.invariant.path calls start traced in
    rw items (trail_cycle calls start (reverse list) (step_proc steps c.args.at) trail call, refl, omega arith, ap (λ xs. start ∷ xs) path)
