use Rattle.std.proofs.Common.{rules, length-append, ◌^◌, ◌≡◌, ◌≢◌, ℕ, ◌+◌, ◌<◌, ◌≤◌, ◌++◌, ◌∷◌, [], length, get_or, set, true, false, inl, inr, arith, ap, sym, ◌∙◌, refl}
use Rattle.std.proofs.lemmas.Bool.{cases_eq}
use Rattle.std.proofs.Math.ListN.{get_or-append}
use Rattle.std.proofs.Math.Seq.{get_or-append_seam}
use Rattle.call_graph.specs.declared.cycle.SearchStep.{SearchStep}
use Rattle.call_graph.specs.Walk.{caller_at, callee_of_edge}
use Rattle.call_graph.specs.Cycle.{PlaceInCycle, step_proc, step_from, step_far, seen_at}
use Rattle.call_graph.proofs.CallLemmas.{calls_at}
use Rattle.call_graph.proofs.CycleLemmas.{search_more, search_passed, place_more, place_new, left_more}
use Rattle.call_graph.proofs.cycle.spread.Goals as goal
use Rattle.call_graph.proofs.cycle.spread.Goals.{then-not-seen-from+in_ok-push, else-not-seen-from}

pub returns-then-edge-step-clause-goes_on : goal.returns-then-edge-step-clause-goes_on
returns-then-edge-step-clause-goes_on c =
    let kept = c.loop-number.invariant in
    let calls = c.args.calls.now in
    let steps = c.loop-number.steps.items in
    let number : ℕ = c.loop-number.number in
    let proc : step_proc steps c.args.at ≡ c.index-step.result.now.proc = kept.proc_is in
    let low : c.index-step.result.now.proc ≤ caller_at calls number = c.first_call-number.ensures.from number (record { caller = 0; callee = 0 }) (omega arith) (omega arith) in
    let other : caller_at calls number ≢ c.index-step.result.now.proc = c.if-edge-step.true in
    search_passed calls c.args.start c.loop-number.seen steps c.args.at number kept.searched kept.inside
    (λ i l h e. kept.so_far i l h (e ∙ proc))
    (λ i l h e.
    let up : caller_at calls number ≤ caller_at calls i = c.requires.rising.by_caller number i (record { caller = 0; callee = 0 }) l h in omega arith)

pub returns-clause-goes_on : goal.returns-clause-goes_on
returns-clause-goes_on c =
    let kept = c.loop-number.invariant in
    search_passed c.args.calls.now c.args.start c.loop-number.seen c.loop-number.steps.items c.args.at c.loop-number.number kept.searched kept.inside
    (λ i l h e. kept.so_far i l h (e ∙ kept.proc_is))
    (λ i l h e. absurd (omega arith))

pub overflow_add-step : goal.overflow_add-step
overflow_add-step c =
    let kept = c.loop-number.invariant in
    let steps = c.loop-number.steps.items in
    let far : step_far steps c.args.at ≡ c.index-step.result.now.far = kept.far_is in
    let low : step_far steps c.args.at ≤ c.args.at = kept.searched.traced.low c.args.at kept.inside in
    let inside : c.args.at < length steps = kept.inside in
    let short : length steps < 2 ^ 63 = search rules in
    omega arith

pub loop-number-preserved : goal.loop-number-preserved
loop-number-preserved c =
    let kept = c.loop-number.invariant in
    let calls = c.args.calls.now in
    let number : ℕ = c.loop-number.number in
    let at : ℕ = c.args.at in
    let old = c.loop-number.steps.items in
    let seen = c.loop-number.seen in
    let p : ℕ = callee_of_edge calls number in
    let inside : at < length old = kept.inside in
    let here : number < length calls = c.loop-number-test.true in
    let other : p ≢ c.args.start = c.if-edge-start.false in
    let room : length seen ≡ 65536 = kept.searched.room in
    let fits : p < 65536 = search rules in
    elim c.if-not-seen-from.branch [
      | then-not-seen-from+in_ok-push w ↦
          let far_is : c.index-step.result.now.far ≡ step_far old at = sym kept.far_is in
          let s : SearchStep = record { proc = p; from = at; far = step_far old at + 1 } in
          let items : c.if-not-seen-from.steps.items ≡ old ++ s ∷ [] =
          ap (λ v. v.items) w.steps-is ∙ (w.in_ok-push.ensures.items ∙ ap (λ f. old ++ (record { proc = p; from = at; far = f + 1 }) ∷ []) far_is) in
          let wrote : c.if-not-seen-from.seen ≡ set seen p true = w.seen-is ∙ ap (λ k. set seen k true) w.from-then-not-seen-from.ensures in
          let call = calls_at calls number (step_proc old at) p here (c.if-edge-step.false ∙ sym kept.proc_is) refl in
          let unseen : seen_at seen p ≡ false = ap (seen_at seen) (sym c.from.ensures) ∙ w.if-not-seen-from.true in
          let others : (j : ℕ) → 0 < j → j < length old → step_from old j ≡ at → step_proc old j < p = λ j some l from.
          let z = kept.others j some l from in
          let up : callee_of_edge calls z.0 ≤ p = c.requires.rising.by_callee z.0 number (omega arith) here (z.3 ∙ sym c.if-edge-step.false) in
          let same : callee_of_edge calls z.0 ≡ step_proc old j = z.4 in
          let marked = kept.searched.marked j l in
          let apart : step_proc old j ≢ p = λ e. let x : seen_at seen p ≡ true = ap (seen_at seen) (sym e) ∙ marked in cc in
          omega arith in
          let longer : length (old ++ s ∷ []) ≡ length old + 1 = length-append old (s ∷ []) in
          let same_far : step_far (old ++ s ∷ []) at ≡ step_far old at = ap (λ v. v.far) (get_or-append old (s ∷ []) (record { proc = 0; from = 0; far = 0 }) at inside) in
          rw (wrote, items) (record {
            searched = search_more calls c.args.start seen old p at kept.searched inside fits call others;
            inside = omega arith;
            proc_is = ap (λ v. v.proc) (get_or-append old (s ∷ []) (record { proc = 0; from = 0; far = 0 }) at inside) ∙ kept.proc_is;
            far_is = same_far ∙ kept.far_is;
            so_far = λ i l h e. elim (cases_eq i number) [
              | inl x ↦ rw (x, same_far) (other, place_new old p at)
              | inr ne ↦ let z = kept.so_far i (omega arith) h e in rw same_far (z.0, place_more old p at (callee_of_edge calls i) (step_far old at + 1) at z.1)
            ];
            others = λ j some l from. elim (cases_eq j (length old)) [
              | inl e ↦
                  let last : get_or (old ++ s ∷ []) j (record { proc = 0; from = 0; far = 0 }) ≡ s = ap (λ k. get_or (old ++ s ∷ []) k (record { proc = 0; from = 0; far = 0 })) e ∙ get_or-append_seam old s [] (record { proc = 0; from = 0; far = 0 }) in
                  (number, omega arith, here, c.if-edge-step.false, ap (λ v. v.proc) (sym last))
              | inr ne ↦
                  let before : j < length old = omega arith in
                  let stays = get_or-append old (s ∷ []) (record { proc = 0; from = 0; far = 0 }) j before in
                  let z = kept.others j some before (ap (λ v. v.from) (sym stays) ∙ from) in
                  (z.0, omega (arith, z.1), z.2, z.3, z.4 ∙ ap (λ v. v.proc) (sym stays))
            ];
            same = left_more seen old p s (omega arith) unseen ∙ kept.same;
          })
      | else-not-seen-from w ↦
          let seen_there : seen_at seen p ≡ true = ap (seen_at seen) (sym c.from.ensures) ∙ w.if-not-seen-from.false in
          let z = kept.searched.placed p seen_there in
          let place : PlaceInCycle old p (step_far old at + 1) at = record { at = z.0; inside = z.1; is = z.2; near = kept.searched.within z.0 z.1 inside; from = kept.searched.behind z.0 z.1 } in
          rw (w.seen-is, w.steps-is) (record {
            searched = kept.searched;
            inside = inside;
            proc_is = kept.proc_is;
            far_is = kept.far_is;
            so_far = λ i l h e. elim (cases_eq i number) [
              | inl x ↦ rw x (other, place)
              | inr ne ↦ kept.so_far i (omega arith) h e
            ];
            others = λ j some l from. let z = kept.others j some l from in (z.0, omega (arith, z.1), z.2, z.3, z.4);
            same = kept.same;
          })
    ]
