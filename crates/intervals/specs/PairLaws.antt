-- The laws of `Domain` for pairs, proved.
use Rattle.std.specs.Prelude.{◌≡◌, ℕ, ◌==◌, cond, Bool, true, false, refl, Option, Some, None, IfSome}
use Rattle.std.proofs.Common.{arith, rules, sym, ◌∙◌, ap, eqb}
use Rattle.intervals.specs.declared.pair.Pair.{Pair}
use Rattle.intervals.specs.declared.reg_pair.RegPair.{RegPair}
use Rattle.intervals.specs.declared.reg_pair.RegPair.TheVariants.{Af, Bc, De, Hl, Ix, Iy, AlternateAf, AlternateBc, AlternateDe, AlternateHl}
use Rattle.intervals.specs.Domain.{Entry}
use Rattle.intervals.specs.RegPair.{place_of_pair}
use Rattle.intervals.specs.Pair.{HoldsPair, CoversPair, hull_of_pairs, shared_origin}

-- the pair at a place
pair_at : ℕ → RegPair
pair_at n = cond (n == 0) Af (cond (n == 1) Bc (cond (n == 2) De (cond (n == 3) Hl (cond (n == 4) Ix
    (cond (n == 5) Iy (cond (n == 6) AlternateAf (cond (n == 7) AlternateBc (cond (n == 8) AlternateDe AlternateHl))))))))

pair_at-place : (r : RegPair) → pair_at (place_of_pair r) ≡ r
unfolding pair_at
pair_at-place Af = refl
pair_at-place Bc = refl
pair_at-place De = refl
pair_at-place Hl = refl
pair_at-place Ix = refl
pair_at-place Iy = refl
pair_at-place AlternateAf = refl
pair_at-place AlternateBc = refl
pair_at-place AlternateDe = refl
pair_at-place AlternateHl = refl

-- two pairs at the same place are equal
pub same_from_place : (r s : RegPair) → place_of_pair r ≡ place_of_pair s → r ≡ s
same_from_place r s e = sym (pair_at-place r) ∙ ap pair_at e ∙ pair_at-place s

abbrev CoversOrigin : Option RegPair → Option RegPair → Type 0
CoversOrigin a b = IfSome a (λ r. b ≡ Some r)

origin_covers_itself : (a : Option RegPair) → CoversOrigin a a
origin_covers_itself None = tt
origin_covers_itself (Some r) = refl

origin_covers_along : (a b c : Option RegPair) → CoversOrigin a b → CoversOrigin b c → CoversOrigin a c
origin_covers_along None b c h k = tt
origin_covers_along (Some r) None c h k = cc
origin_covers_along (Some r) (Some s) c h k = cc

origin_wider : (a b : Option RegPair) (P : RegPair → Type 0) → CoversOrigin a b → IfSome b P → IfSome a P
origin_wider None b P h k = tt
origin_wider (Some r) None P h k = cc
origin_wider (Some r) (Some s) P h k = let e : s ≡ r = cc in rw (← e) k

shared_first : (a b : Option RegPair) → CoversOrigin (shared_origin a b) a
shared_first None b = tt
shared_first (Some r) None = tt
shared_first (Some r) (Some s) =
    elim (place_of_pair r == place_of_pair s) as (λ t. CoversOrigin (cond t (Some r) None) (Some r)) [ true ↦ refl | false ↦ tt ]

shared_second : (a b : Option RegPair) → CoversOrigin (shared_origin a b) b
shared_second None b = tt
shared_second (Some r) None = tt
shared_second (Some r) (Some s) =
    let at : (t : Bool) → eqb (place_of_pair r) (place_of_pair s) ≡ t → CoversOrigin (cond t (Some r) None) (Some s) =
    elim [ true ↦ λ e. ap Some (sym (same_from_place r s (search rules))) | false ↦ λ e. tt ] in
    at (eqb (place_of_pair r) (place_of_pair s)) refl

pub covers_itself : (a : Pair) → CoversPair a a
covers_itself a =
    record { word = search rules; high = search rules; low = search rules; origin = origin_covers_itself a.origin }

pub covers_along : (a b c : Pair) → CoversPair a b → CoversPair b c → CoversPair a c
covers_along a b c h k = record {
  word = omega arith;
  high = omega arith;
  low = omega arith;
  origin = origin_covers_along a.origin b.origin c.origin h.origin k.origin;
}

pub holds_wider : (a b : Pair) (entry : Entry) (v : ℕ) → CoversPair a b → HoldsPair b entry v → HoldsPair a entry v
holds_wider a b entry v h k = record {
  word = omega arith;
  high = omega arith;
  low = omega arith;
  origin = origin_wider a.origin b.origin (λ r. v ≡ entry r) h.origin k.origin;
}

pub hull_covers_first : (a b : Pair) → CoversPair (hull_of_pairs a b) a
hull_covers_first a b = record {
  word = omega arith;
  high = omega arith;
  low = omega arith;
  origin = shared_first a.origin b.origin;
}

pub hull_covers_second : (a b : Pair) → CoversPair (hull_of_pairs a b) b
hull_covers_second a b = record {
  word = omega arith;
  high = omega arith;
  low = omega arith;
  origin = shared_second a.origin b.origin;
}
