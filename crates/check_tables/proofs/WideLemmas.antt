-- Each of what exits leave is covered by a state with the same origins.
use Rattle.std.proofs.Common.{◌≡◌, ◌<◌, ◌+◌, ◌≤◌, ◌∙◌, ℕ, Some, List, length, get_or, slice_get, inl, inr, refl, sym, subst, ap, arith}
use Rattle.std.proofs.lemmas.Bool.{cases_lt}
use Rattle.std.proofs.lemmas.Option.{same_Some, slice_get_read}
use Rattle.abs_state.specs.declared.state.AbsState.{AbsState}
use Rattle.check_tables.specs.Lefts.{IsWidened, WidensEach, state_of}
use Rattle.check_tables.specs.declared.left.Left.{Left}

-- each of the first `count` is
abbrev pub WidensFirst : List Left → ℕ → List AbsState → Type 0
WidensFirst lefts count wides = (k : ℕ) (left : Left) → k < count → slice_get lefts k ≡ Some left → IsWidened wides (state_of left)

pub widens_more : (lefts : List Left) (count : ℕ) (left : Left) (wides : List AbsState) → slice_get lefts count ≡ Some left → WidensFirst lefts count wides →
    IsWidened wides (state_of left) → WidensFirst lefts (count + 1) wides
widens_more lefts count left wides at first here k other below there =
    elim (cases_lt k count) [
      | inl before ↦ first k other before there
      | inr behind ↦
          let same : count ≡ k = omega (arith, below, behind) in
          let is : left ≡ other = same_Some left other (sym at ∙ ap (λ (n : ℕ). slice_get lefts n) same ∙ there) in
          subst (λ (l : Left). IsWidened wides (state_of l)) is here
    ]

pub widens_each : (lefts : List Left) (count : ℕ) (wides : List AbsState) → length lefts ≤ count → WidensFirst lefts count wides → WidensEach lefts wides
widens_each lefts count wides all first = record {
  each = λ left listed.
      let (k, within, is) = listed in
      first k left (omega (arith, all, within)) (slice_get_read lefts _ k left refl within (sym is));
}
