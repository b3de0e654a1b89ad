-- The lowest address that is not in exactly one zone. The number of zones changes only where a zone begins or just
-- after it ends.
use Rattle.std.proofs.Common.{◌≡◌, ◌≢◌, ◌≤◌, ◌<◌, ◌+◌, ℕ, zero, suc, true, ◌⊎◌, inl, inr, List, [], ◌∷◌, length, get_or, refl, sym, ◌∙◌, ap, arith, nat_lt}
use Rattle.std.proofs.Math.Bool.{cond}
use Rattle.std.specs.List.{list_all}
use Rattle.std.proofs.lemmas.List.Sums.{sum_by-cons, list_all-from_AllPass}
use Rattle.std.proofs.lemmas.List.{get_or_default}
use Rattle.std.proofs.lemmas.Bool.{cases_eq, lt-ltb}
use Rattle.std.proofs.lemmas.Bool.Decides.{nat_tests}
use Rattle.address_map.specs.MapLaw.{OneZoneBelow, zones_at}
use Rattle.address_map.specs.Zone.{in_zone, no_zone}
use Rattle.address_map.specs.declared.zone.Zone.{Zone}

-- below `end`, each address where the zone begins or has just ended lies in exactly one zone
pub record EdgesBelow (all : List Zone) (end : ℕ) (z : Zone) : Type 0 where
  pub first : z.first < end → zones_at all z.first ≡ 1
  pub past : z.last + 1 < end → zones_at all (z.last + 1) ≡ 1

in_zone-steps : (z : Zone) (b : ℕ) → z.first ≢ suc b → z.last ≢ b → in_zone (suc b) z ≡ in_zone b z
in_zone-steps z b f l = grind (arith, nat_tests)

zones_at-cons : (z : Zone) (zs : List Zone) (a : ℕ) → zones_at (z ∷ zs) a ≡ cond (in_zone a z) 1 0 + zones_at zs a
unfolding zones_at
zones_at-cons z zs a = sum_by-cons (λ y. cond (in_zone a y) 1 0) z zs

zones_at-none : (a : ℕ) → zones_at [] a ≡ 0
unfolding zones_at
zones_at-none a = refl

-- from an address to the next the number of zones is the same, or the next is such an edge
steps : (all : List Zone) (end : ℕ) (zs : List Zone) (b : ℕ) → ((k : ℕ) → k < length zs → EdgesBelow all end (get_or zs k no_zone)) → suc b < end
    → (zones_at zs (suc b) ≡ zones_at zs b) ⊎ (zones_at all (suc b) ≡ 1)
steps all end [] b h lt = inl (zones_at-none (suc b) ∙ sym (zones_at-none b))
steps all end (z ∷ zs) b h lt = elim (cases_eq z.first (suc b)) [
  | inl begins ↦ inr (ap (zones_at all) (sym begins) ∙ (h 0 (omega arith)).first (omega arith))
  | inr not_begins ↦ elim (cases_eq z.last b) [
    | inl ended ↦
        let past : z.last + 1 ≡ suc b = omega arith in
        inr (ap (zones_at all) (sym past) ∙ (h 0 (omega arith)).past (omega arith))
    | inr not_ended ↦ elim (steps all end zs b (λ k l. h (suc k) (omega arith)) lt) [
      | inl same ↦
          let here = in_zone-steps z b not_begins not_ended in
          inl (zones_at-cons z zs (suc b) ∙ ap (λ t. cond t 1 0 + zones_at zs (suc b)) here
          ∙ ap (λ n. cond (in_zone b z) 1 0 + n) same ∙ sym (zones_at-cons z zs b))
      | inr one ↦ inr one
    ]
  ]
]

pub one_zone-below : (zs : List Zone) (end : ℕ) → (0 < end → zones_at zs 0 ≡ 1) → ((k : ℕ) → k < length zs → EdgesBelow zs end (get_or zs k no_zone)) → OneZoneBelow zs end
one_zone-below zs end start h zero lt = start lt
one_zone-below zs end start h (suc b) lt = elim (steps zs end zs b h lt) [
  | inl same ↦ same ∙ one_zone-below zs end start h b (omega arith)
  | inr one ↦ one
]

pub ends-below : (zs : List Zone) → ((k : ℕ) → k < length zs → (get_or zs k no_zone).last < 0x10000) → list_all (λ z. nat_lt z.last 0x10000) zs ≡ true
ends-below zs h = list_all-from_AllPass (λ z. nat_lt z.last 0x10000) zs (λ k d l.
    rw (get_or_default zs k d no_zone l) (lt-ltb _ _ (h k l)))

-- what is known of the lowest address after some zones
pub record Known (zs : List Zone) (least : ℕ) (n : ℕ) : Type 0 where
  pub within : least ≤ 0x10000
  pub start : 0 < least → zones_at zs 0 ≡ 1
  pub at : least < 0x10000 → zones_at zs least ≢ 1
  pub edges : (k : ℕ) → k < n → EdgesBelow zs least (get_or zs k no_zone)
  pub ends : (k : ℕ) → k < n → (get_or zs k no_zone).last < 0x10000
