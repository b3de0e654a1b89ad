-- The lines of a run are unique.
use Rattle.std.proofs.Common.{◌≡◌, ◌<◌, ◌+◌, inl, inr, ℕ, zero, suc, List, [], ◌++◌, sym, ap, subst, ◌∙◌, append_assoc, arith}
use Rattle.std.proofs.lemmas.Bool.{cases_lt}
use Rattle.std.proofs.lemmas.List.{append-nil}
use Rattle.board_step.specs.Hardware.{Hardware}
use Rattle.board_step.specs.Run.{AcceptsAt, EndsAt, Run, spent}
use Rattle.board_step.specs.declared.event.Kind.{Kind}
use Rattle.board_step.specs.declared.event.Kind.TheVariants as kinds
use Rattle.run_lines.specs.Lines.{return_line}
use Rattle.run_lines.specs.Told.{NeverNests, Tells, TellsUpTo, begins, ends, nothing}

clash : (k : Kind) → k ≡ kinds.Accept → k ≡ kinds.Instr → ⊥
clash k p q = cc

module _ (hardware : Hardware) (run : Run hardware) (never : NeverNests run) where
  -- an event ends at most one routine
  earlier_ended : (i k j : ℕ) → EndsAt run i j → EndsAt run k j → i < k → ⊥
  earlier_ended i k j first second lt =
      let n = never i k lt first.accepts second.accepts in
      let before = n.1 in
      let later = second.returns.later in
      first.first n.0 (omega arith) n.2.returns

  ends_one : (i k j : ℕ) → EndsAt run i j → EndsAt run k j → i ≡ k
  ends_one i k j first second =
      elim (cases_lt i k) [
        | inl less ↦ absurd (earlier_ended i k j first second less)
        | inr more ↦ elim (cases_lt k i) [
          | inl less ↦ absurd (earlier_ended k i j second first less)
          | inr same ↦ omega arith
        ]
      ]

  no_end : (i j : ℕ) → AcceptsAt run j → EndsAt run i j → ⊥
  no_end i j a e = clash (run.event_at j).kind a.accepts e.returns.kind

  one_line : (i : ℕ) (x y : List ℕ) → Tells run i x → Tells run i y → x ≡ y
  one_line i x y (begins a e) (begins b f) = e ∙ sym f
  one_line i x y (begins a e) (ends k b f) = absurd (no_end k i a b)
  one_line i x y (begins a e) (nothing b n f) = absurd (b a)
  one_line i x y (ends k a e) (begins b f) = absurd (no_end k i b a)
  one_line i x y (ends k a e) (ends l b f) = e ∙ ap (λ (from : ℕ). return_line i (spent run from i)) (ends_one k l i a b) ∙ sym f
  one_line i x y (ends k a e) (nothing b n f) = absurd (n k a)
  one_line i x y (nothing a n e) (begins b f) = absurd (a b)
  one_line i x y (nothing a n e) (ends k b f) = absurd (n k b)
  one_line i x y (nothing a n e) (nothing b m f) = e ∙ sym f

  pub one_text : (n : ℕ) (x y : List ℕ) → TellsUpTo run n x → TellsUpTo run n y → x ≡ y
  unfolding TellsUpTo
  one_text zero x y p q = p ∙ sym q
  one_text (suc n) x y (a, p, u) (b, q, v) =
      u.is ∙ ap (λ (t : List ℕ). t ++ u.line) (one_text n a b p q) ∙ ap (λ (l : List ℕ). b ++ l) (one_line n u.line v.line u.tells v.tells) ∙ sym v.is

  -- the lines up to an event are a prefix of the lines up to a later one
  pub begins_alike : (i n : ℕ) (text whole : List ℕ) → TellsUpTo run i text → TellsUpTo run (i + n) whole → (rest : List ℕ) × (whole ≡ text ++ rest)
  unfolding TellsUpTo
  begins_alike i zero text whole p q =
      let e : i + 0 ≡ i = omega arith in
      ([], one_text i whole text (subst (λ (m : ℕ). TellsUpTo run m whole) e q) p ∙ sym (append-nil text))
  begins_alike i (suc n) text whole p q =
      let e : i + suc n ≡ suc (i + n) = omega arith in
      let (before, upto, more) = subst (λ (m : ℕ). TellsUpTo run m whole) e q in
      let (rest, is) = begins_alike i n text before p upto in
      (rest ++ more.line, more.is ∙ ap (λ (t : List ℕ). t ++ more.line) is ∙ append_assoc text rest more.line)
