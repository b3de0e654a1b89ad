-- If no pair is the first that an exit loses, each pair is given back.
use Rattle.std.proofs.Common.{◌≡◌, ◌<◌, ◌∙◌, ◌⊎◌, inl, inr, ℕ, zero, suc, cond, eqb, Option, Some, None, refl, sym, ap, subst, arith}
use Rattle.std.specs.Prelude.{IfSome}
use Rattle.std.proofs.lemmas.Bool.{cases_eq}
use Rattle.intervals.specs.Domain.{Entry}
use Rattle.intervals.specs.RegPair.{place_of_pair}
use Rattle.intervals.specs.declared.reg_pair.RegPair.{RegPair}
use Rattle.intervals.specs.declared.reg_pair.RegPair.TheVariants.{Af, Bc, De, Hl, Ix, Iy, AlternateAf, AlternateBc, AlternateDe, AlternateHl}
use Rattle.nmi_saves.specs.Lost.{IsFirstLost, IsRestored}
use Rattle.z80_alu.specs.Word.{word_of}
use Rattle.z80_alu.specs.declared.regs.Regs.{Regs}
use Rattle.z80_alu.specs.declared.regs.RegisterSet.{RegisterSet}
use Rattle.z80_draft.specs.Registers.{IsRegs}
use Rattle.abs_state.specs.Pairs.{HoldsPairs, pair_of, word_in}
use Rattle.abs_state.specs.declared.state.AbsState.{AbsState}
use Rattle.abs_state.proofs.ChangeLemmas.{held_of}

pair_at : ℕ → RegPair
pair_at n = cond (eqb n 0) Af (cond (eqb n 1) Bc (cond (eqb n 2) De (cond (eqb n 3) Hl (cond (eqb n 4) Ix (cond (eqb n 5) Iy (cond (eqb n 6) AlternateAf (cond (eqb n 7) AlternateBc (cond (eqb n 8) AlternateDe AlternateHl))))))))

pair_at_place : (p : RegPair) → pair_at (place_of_pair p) ≡ p
unfolding pair_at
pair_at_place Af = refl
pair_at_place Bc = refl
pair_at_place De = refl
pair_at_place Hl = refl
pair_at_place Ix = refl
pair_at_place Iy = refl
pair_at_place AlternateAf = refl
pair_at_place AlternateBc = refl
pair_at_place AlternateDe = refl
pair_at_place AlternateHl = refl

same_pair : (p q : RegPair) → place_of_pair p ≡ place_of_pair q → p ≡ q
same_pair p q e = sym (pair_at_place p) ∙ ap pair_at e ∙ pair_at_place q

place_small : (p : RegPair) → place_of_pair p < 10
place_small Af = omega arith
place_small Bc = omega arith
place_small De = omega arith
place_small Hl = omega arith
place_small Ix = omega arith
place_small Iy = omega arith
place_small AlternateAf = omega arith
place_small AlternateBc = omega arith
place_small AlternateDe = omega arith
place_small AlternateHl = omega arith

one_pair : (p q : RegPair) → Some p ≡ Some q → p ≡ q
one_pair p q e = cc

is_or_not : (o : Option RegPair) (p : RegPair) → (o ≡ Some p) ⊎ (o ≡ Some p → ⊥)
is_or_not None p = inr (λ e. cc)
is_or_not (Some q) p = elim (cases_eq (place_of_pair q) (place_of_pair p)) [
  | inl e ↦ inl (ap Some (same_pair q p e))
  | inr n ↦ inr (λ e. n (ap place_of_pair (one_pair q p e)))
]

module _ (s : AbsState) (none : (pair : RegPair) → IsFirstLost s pair → ⊥) where
  restored_below : (n : ℕ) (pair : RegPair) → place_of_pair pair < n → IsRestored s pair
  restored_below zero pair less = absurd (omega arith)
  restored_below (suc n) pair less = elim (is_or_not (pair_of pair s.pairs).origin pair) [
    | inl is ↦ is
    | inr lost ↦ absurd (none pair (record { lost = lost; before = λ other before. restored_below n other (omega (arith, less, before)) }))
  ]

  all_restored : (pair : RegPair) → IsRestored s pair
  all_restored pair = restored_below 10 pair (place_small pair)

  module _ (entry : Entry) (old new : Regs) (same : (r : RegPair) → entry r ≡ word_in r old) (i : IsRegs old) (j : IsRegs new) (h : HoldsPairs s.pairs entry new) where
    word_back : (r : RegPair) → word_in r new ≡ word_in r old
    word_back r =
        let held = held_of s.pairs entry new h r in
        subst (λ (o : Option RegPair). IfSome o (λ r'. word_in r new ≡ entry r')) (all_restored r) held.origin ∙ same r

    high : (a b c d : ℕ) → b < 256 → d < 256 → word_of a b ≡ word_of c d → a ≡ c
    high a b c d p q e = omega (arith, p, q, e)

    low : (a b c d : ℕ) → b < 256 → d < 256 → word_of a b ≡ word_of c d → b ≡ d
    low a b c d p q e = omega (arith, p, q, e)

    set_of : ℕ → ℕ → ℕ → ℕ → ℕ → ℕ → ℕ → ℕ → RegisterSet
    set_of a f b c d e h l = record { a = a; f = f; b = b; c = c; d = d; e = e; h = h; l = l }

    set_same : (x y : RegisterSet) → x.a ≡ y.a → x.f ≡ y.f → x.b ≡ y.b → x.c ≡ y.c → x.d ≡ y.d → x.e ≡ y.e → x.h ≡ y.h → x.l ≡ y.l → x ≡ y
    unfolding set_of
    set_same x y a f b c d e h l =
        ap (λ n. set_of n x.f x.b x.c x.d x.e x.h x.l) a
        ∙ ap (λ n. set_of y.a n x.b x.c x.d x.e x.h x.l) f
        ∙ ap (λ n. set_of y.a y.f n x.c x.d x.e x.h x.l) b
        ∙ ap (λ n. set_of y.a y.f y.b n x.d x.e x.h x.l) c
        ∙ ap (λ n. set_of y.a y.f y.b y.c n x.e x.h x.l) d
        ∙ ap (λ n. set_of y.a y.f y.b y.c y.d n x.h x.l) e
        ∙ ap (λ n. set_of y.a y.f y.b y.c y.d y.e n x.l) h
        ∙ ap (λ n. set_of y.a y.f y.b y.c y.d y.e y.h n) l

    pub main_back : new.main ≡ old.main
    main_back = set_same new.main old.main
        (high _ _ _ _ j.main.f i.main.f (word_back Af)) (low _ _ _ _ j.main.f i.main.f (word_back Af))
        (high _ _ _ _ j.main.c i.main.c (word_back Bc)) (low _ _ _ _ j.main.c i.main.c (word_back Bc))
        (high _ _ _ _ j.main.e i.main.e (word_back De)) (low _ _ _ _ j.main.e i.main.e (word_back De))
        (high _ _ _ _ j.main.l i.main.l (word_back Hl)) (low _ _ _ _ j.main.l i.main.l (word_back Hl))

    pub alternate_back : new.alternate ≡ old.alternate
    alternate_back = set_same new.alternate old.alternate
        (high _ _ _ _ j.alternate.f i.alternate.f (word_back AlternateAf)) (low _ _ _ _ j.alternate.f i.alternate.f (word_back AlternateAf))
        (high _ _ _ _ j.alternate.c i.alternate.c (word_back AlternateBc)) (low _ _ _ _ j.alternate.c i.alternate.c (word_back AlternateBc))
        (high _ _ _ _ j.alternate.e i.alternate.e (word_back AlternateDe)) (low _ _ _ _ j.alternate.e i.alternate.e (word_back AlternateDe))
        (high _ _ _ _ j.alternate.l i.alternate.l (word_back AlternateHl)) (low _ _ _ _ j.alternate.l i.alternate.l (word_back AlternateHl))

    pub ix_back : new.ix ≡ old.ix
    ix_back = word_back Ix

    pub iy_back : new.iy ≡ old.iy
    iy_back = word_back Iy
