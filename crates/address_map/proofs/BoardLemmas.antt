-- The maps of the boards obey the rules, and their classes are those of the tables.
use Rattle.std.specs.Prelude.{if◌then◌else◌}
use Rattle.std.proofs.Common.{◌≡◌, ◌≤◌, ◌<◌, ◌+◌, ◌-◌, ◌%◌, ℕ, suc, Bool, true, false, inl, inr, List, [], ◌∷◌, refl, sym, ◌∙◌, ap, subst, arith, lit≤, nat_lt, ◌&&◌, ◌||◌, not, ◌↔◌, ◌==◌}
use Rattle.std.specs.List.{count_by, list_all, list_any}
use Rattle.std.proofs.lemmas.Bool.{cases_Bool, cases_lt, le-leb, lt-leb, lt-ltb, le-ltb, leb-true, eqb-true, and_parts, and_from, and_left, and_right, eq-eqb}
use Rattle.address_map.proofs.Laws.{no_class}
use Rattle.address_map.proofs.MapLemmas.{class_of-in, zone_of, class-enable, enable-class}
use Rattle.address_map.proofs.ZoneLemmas.{In-all, In-from-any, count-yes, count-no}
use Rattle.address_map.specs.AddressMap.{MapView, map_of}
use Rattle.address_map.specs.MapLaw.{IsMap, zones_at, has_work, has_rom}
use Rattle.address_map.specs.Boards.{galaxian, raised, galaxian_zones, raised_zones, with_rom, zone, open_zone}
use Rattle.address_map.specs.BoardTables.{galaxian_class, raised_class, open_class}
use Rattle.address_map.specs.Class.{class_of}
use Rattle.address_map.specs.WorkRam.{work_start, work_last}
use Rattle.address_map.specs.Shared.{writes_enable}
use Rattle.address_map.specs.Zone.{in_zone, class_in, first_zone}
use Rattle.address_map.specs.ZoneUse.{fits_ram, names_work, names_rom, fits_rom}
use Rattle.address_map.specs.declared.map.Class.{Class}
use Rattle.address_map.specs.declared.map.ReadClass.{ReadClass}
use Rattle.address_map.specs.declared.map.ReadClass.TheVariants as reads
use Rattle.address_map.specs.declared.map.WriteClass.TheVariants as writes
use Rattle.address_map.specs.declared.zone.WriteUse.{WriteUse}
use Rattle.address_map.specs.declared.zone.WriteUse.TheVariants as uses
use Rattle.address_map.specs.declared.zone.Zone.{Zone}

-- zones that follow one another from an address to FFFF
pub data Follows : ℕ → List Zone → Type 0 where
  done : Follows 0x10000 []
  next : {first : ℕ} {z : Zone} {zs : List Zone} → z.first ≡ first → first ≤ z.last → Follows (z.last + 1) zs → Follows first (z ∷ zs)

none_before : (first : ℕ) (zs : List Zone) → Follows first zs → (a : ℕ) → a < first → count_by (in_zone a) zs ≡ 0
none_before _ _ done a lt = refl
none_before _ _ (next {first} {z} {zs} begins some f) a lt =
    let out : z.first ≤ a → ⊥ = λ h. omega arith in
    let no : in_zone a z ≡ false = and_left _ _ (lt-leb z.first a (omega arith)) in
    count-no (in_zone a) z zs no ∙ none_before _ _ f a (omega arith)

pub one_after : (first : ℕ) (zs : List Zone) → Follows first zs → (a : ℕ) → first ≤ a → a < 0x10000 → count_by (in_zone a) zs ≡ 1
one_after _ _ done a low high = absurd (omega arith)
one_after _ _ (next {first} {z} {zs} begins some f) a low high = elim (cases_lt z.last a) [
  | inl past ↦
      let no : in_zone a z ≡ false = and_right _ _ (lt-leb a z.last past) in
      count-no (in_zone a) z zs no ∙ one_after _ _ f a (omega arith) high
  | inr here ↦
      let yes' : in_zone a z ≡ true = and_from _ _ (le-leb z.first a (omega arith)) (le-leb a z.last here) in
      count-yes (in_zone a) z zs yes' ∙ ap suc (none_before _ _ f a (omega arith))
]

follow_zone : (first last : ℕ) (r : ReadClass) (w : WriteUse) (zs : List Zone) → first ≤ last → Follows (last + 1) zs → Follows first (zone first last r w ∷ zs)
follow_zone first last r w zs some f = next {z = zone first last r w} refl some f

galaxian_follow : Follows 0x4000 galaxian_zones
galaxian_follow =
    follow_zone _ _ _ _ _ (lit≤ tt) (follow_zone _ _ _ _ _ (lit≤ tt) (follow_zone _ _ _ _ _ (lit≤ tt)
    (follow_zone _ _ _ _ _ (lit≤ tt) (follow_zone _ _ _ _ _ (lit≤ tt) (follow_zone _ _ _ _ _ (lit≤ tt)
    (follow_zone _ _ _ _ _ (lit≤ tt) (follow_zone _ _ _ _ _ (lit≤ tt) (follow_zone _ _ _ _ _ (lit≤ tt) done))))))))

raised_follow : Follows 0x4000 raised_zones
raised_follow =
    follow_zone _ _ _ _ _ (lit≤ tt) (follow_zone _ _ _ _ _ (lit≤ tt) (follow_zone _ _ _ _ _ (lit≤ tt)
    (follow_zone _ _ _ _ _ (lit≤ tt) (follow_zone _ _ _ _ _ (lit≤ tt) (follow_zone _ _ _ _ _ (lit≤ tt)
    (follow_zone _ _ _ _ _ (lit≤ tt) (follow_zone _ _ _ _ _ (lit≤ tt) (follow_zone _ _ _ _ _ (lit≤ tt)
    (follow_zone _ _ _ _ _ (lit≤ tt) done)))))))))

follow_at : (a b : ℕ) (zs : List Zone) → a ≡ b → Follows a zs → Follows b zs
follow_at a b zs e f = subst (λ n. Follows n zs) e f

-- the zones of a board whose ROM ends below 3FFF, or does not
short_zones : ℕ → List Zone → List Zone
short_zones n behind = zone 0 (n - 1) reads.Rom uses.Rom ∷ open_zone n 0x3FFF ∷ behind

full_zones : ℕ → List Zone → List Zone
full_zones n behind = zone 0 (n - 1) reads.Rom uses.Rom ∷ behind

short_is : (n : ℕ) (behind : List Zone) → n < 0x4000 → with_rom n behind ≡ short_zones n behind
unfolding short_zones
short_is n behind h = let t = lt-ltb n 0x4000 h in rw t refl

full_is : (n : ℕ) (behind : List Zone) → 0x4000 ≤ n → with_rom n behind ≡ full_zones n behind
unfolding full_zones
full_is n behind h = let t = le-ltb n 0x4000 h in rw t refl

short_follow : (n : ℕ) (behind : List Zone) → 1 ≤ n → n < 0x4000 → Follows 0x4000 behind → Follows 0 (short_zones n behind)
unfolding short_zones
short_follow n behind some fits f =
    follow_zone 0 (n - 1) _ _ _ (omega arith)
    (follow_at n _ _ (omega arith) (follow_zone n 0x3FFF _ _ _ (omega arith) f))

full_follow : (n : ℕ) (behind : List Zone) → n ≡ 0x4000 → Follows 0x4000 behind → Follows 0 (full_zones n behind)
unfolding full_zones
full_follow n behind fits f = follow_zone 0 (n - 1) _ _ _ (omega arith) (follow_at 0x4000 _ _ (omega arith) f)

-- a property of the zones, for each length of the ROM
by_length : (n : ℕ) (behind : List Zone) (P : List Zone → Type 0) → n ≤ 0x4000 → (n < 0x4000 → P (short_zones n behind)) → (n ≡ 0x4000 → P (full_zones n behind)) → P (with_rom n behind)
by_length n behind P fits short full = elim (cases_lt n 0x4000) [
  | inl h ↦ subst P (sym (short_is n behind h)) (short h)
  | inr h ↦ subst P (sym (full_is n behind h)) (full (omega arith))
]

with_rom_follow : (n : ℕ) (behind : List Zone) → 1 ≤ n → n ≤ 0x4000 → Follows 0x4000 behind → Follows 0 (with_rom n behind)
with_rom_follow n behind some fits f =
    by_length n behind (λ zs. Follows 0 zs) fits (λ h. short_follow n behind some h f) (λ h. full_follow n behind h f)

rom_again : (n : ℕ) → 1 ≤ n → (((n - 1) + 1) == n) ≡ true
rom_again n some = eq-eqb _ _ (omega arith)

-- zones after the ROM: one is work RAM, and none is ROM
record Behind (zs : List Zone) : Type 0 where
  follow : Follows 0x4000 zs
  ends : list_all (λ z. nat_lt z.last 0x10000) zs ≡ true
  work : count_by names_work zs ≡ 1
  ram : list_all fits_ram zs ≡ true
  no_rom : count_by names_rom zs ≡ 0
  rom : (n : ℕ) → list_all (fits_rom n) zs ≡ true

galaxian_behind : Behind galaxian_zones
galaxian_behind =
    record { follow = galaxian_follow; ends = refl; work = refl; ram = refl; no_rom = refl; rom = λ n. refl }

raised_behind : Behind raised_zones
raised_behind =
    record { follow = raised_follow; ends = refl; work = refl; ram = refl; no_rom = refl; rom = λ n. refl }

board_ends : (n : ℕ) (zs : List Zone) → Behind zs → 1 ≤ n → n ≤ 0x4000 → list_all (λ z. nat_lt z.last 0x10000) (with_rom n zs) ≡ true
unfolding short_zones full_zones
board_ends n zs b some fits =
    let last = lt-ltb (n - 1) 0x10000 (omega arith) in
    by_length n zs (λ ys. list_all (λ z. nat_lt z.last 0x10000) ys ≡ true) fits
    (λ h. and_from _ _ last b.ends) (λ h. and_from _ _ last b.ends)

board_work : (n : ℕ) (zs : List Zone) → Behind zs → 1 ≤ n → n ≤ 0x4000 → has_work (with_rom n zs) ≡ true
unfolding short_zones full_zones has_work
board_work n zs b some fits =
    by_length n zs (λ ys. (count_by names_work ys == 1 && list_all fits_ram ys) ≡ true) fits
    (λ h. and_from _ _ (eq-eqb _ _ b.work) b.ram) (λ h. and_from _ _ (eq-eqb _ _ b.work) b.ram)

board_rom : (n : ℕ) (zs : List Zone) → Behind zs → 1 ≤ n → n ≤ 0x4000 → has_rom n (with_rom n zs) ≡ true
unfolding short_zones full_zones has_rom
board_rom n zs b some fits =
    let first = zone 0 (n - 1) reads.Rom uses.Rom in
    let here = rom_again n some in
    let more = λ (ys : List Zone). count-yes names_rom first ys refl in
    by_length n zs (λ ys. (count_by names_rom ys == 1 && list_all (fits_rom n) ys) ≡ true) fits
    (λ h. and_from _ _ (eq-eqb _ _ (more (open_zone n 0x3FFF ∷ zs) ∙ ap suc b.no_rom)) (and_from _ _ here (b.rom n)))
    (λ h. and_from _ _ (eq-eqb _ _ (more zs ∙ ap suc b.no_rom)) (and_from _ _ here (b.rom n)))

board_is_map : (n : ℕ) (zs : List Zone) → Behind zs → 1 ≤ n → n ≤ 0x4000 → IsMap (map_of (with_rom n zs) n)
unfolding zones_at
board_is_map n zs b some fits = record {
  one_zone = λ a lt. one_after 0 _ (with_rom_follow n zs some fits b.follow) a (omega arith) lt;
  ends = board_ends n zs b some fits;
  work = board_work n zs b some fits;
  rom = board_rom n zs b some fits;
}

pub galaxian_is_map : (n : ℕ) → 1 ≤ n → n ≤ 0x4000 → IsMap (galaxian n)
unfolding galaxian
galaxian_is_map n some fits = board_is_map n galaxian_zones galaxian_behind some fits

pub raised_is_map : (n : ℕ) → 1 ≤ n → n ≤ 0x4000 → IsMap (raised n)
unfolding raised
raised_is_map n some fits = board_is_map n raised_zones raised_behind some fits

-- zones that follow one another, as a table
abbrev ladder : List Zone → ℕ → Class
ladder [] a = open_class
ladder (z ∷ zs) a = if nat_lt a (z.last + 1) then class_in z a else ladder zs a

ladder_is : (first : ℕ) (zs : List Zone) → Follows first zs → (a : ℕ) → first ≤ a → class_in (first_zone (in_zone a) zs) a ≡ ladder zs a
ladder_is _ _ done a low = refl
ladder_is _ _ (next {first} {z} {zs} begins some f) a low = elim (cases_lt z.last a) [
  | inl past ↦
      let no : in_zone a z ≡ false = and_right _ _ (lt-leb a z.last past) in
      let t = le-ltb a (z.last + 1) (omega arith) in
      rw (no, t) (ladder_is _ _ f a (omega arith))
  | inr here ↦
      let yes' : in_zone a z ≡ true = and_from _ _ (le-leb z.first a (omega arith)) (le-leb a z.last here) in
      let t = lt-ltb a (z.last + 1) (omega arith) in
      rw (yes', t) refl
]

pub galaxian_classes : (n a : ℕ) → 1 ≤ n → n ≤ 0x4000 → class_of (galaxian n) a ≡ galaxian_class n a
unfolding galaxian class_of short_zones full_zones
galaxian_classes n a some fits =
    let same : (n - 1) + 1 ≡ n = omega arith in
    let table = ladder_is 0 _ (with_rom_follow n galaxian_zones some fits galaxian_follow) a (omega arith) in
    table ∙ by_length n galaxian_zones (λ zs. ladder zs a ≡ galaxian_class n a) fits
    (λ h. elim (cases_Bool (nat_lt a 0x10000)) [ inl u ↦ rw (same, u) refl | inr u ↦ rw (same, u) refl ])
    (λ h. rw (same, h) (elim (cases_Bool (nat_lt a 0x4000)) [
      | inl t ↦ rw t refl
      | inr f ↦ elim (cases_Bool (nat_lt a 0x10000)) [ inl u ↦ rw (f, u) refl | inr u ↦ rw (f, u) refl ]
    ]))

pub raised_classes : (n a : ℕ) → 1 ≤ n → n ≤ 0x4000 → class_of (raised n) a ≡ raised_class n a
unfolding raised class_of short_zones full_zones
raised_classes n a some fits =
    let same : (n - 1) + 1 ≡ n = omega arith in
    let table = ladder_is 0 _ (with_rom_follow n raised_zones some fits raised_follow) a (omega arith) in
    table ∙ by_length n raised_zones (λ zs. ladder zs a ≡ raised_class n a) fits
    (λ h. elim (cases_Bool (nat_lt a 0x10000)) [ inl u ↦ rw (same, u) refl | inr u ↦ rw (same, u) refl ])
    (λ h. rw (same, h) (elim (cases_Bool (nat_lt a 0x4000)) [
      | inl t ↦ rw t refl
      | inr f ↦ elim (cases_Bool (nat_lt a 0x10000)) [ inl u ↦ rw (f, u) refl | inr u ↦ rw (f, u) refl ]
    ]))

-- the NMI enable lies only in the zone with these ends
abbrev only_enable : ℕ → ℕ → Zone → Bool
only_enable low high z = not (writes_enable z.write) || (z.first == low && z.last == high)

abbrev is_enable : ℕ → ℕ → Zone → Bool
is_enable low high z = writes_enable z.write && (z.first == low && z.last == high)

enable_addresses : (m : MapView) → IsMap m → (low high : ℕ) → list_all (only_enable low high) m.zones ≡ true → list_any (is_enable low high) m.zones ≡ true
    → (a : ℕ) → ((class_of m a).write ≡ writes.NmiEnable) ↔ ((low ≤ a) × (a ≤ high) × (a % 8 ≡ 1))
enable_addresses m h low high only some a = (
  λ e. elim (cases_lt a 0x10000) [
    | inl near ↦
        let z = zone_of m h a near in
        let c = class-enable z.zone.write a (sym (ap (λ k. k.write) z.class) ∙ e) in
        let o : (not (writes_enable z.zone.write) || (z.zone.first == low && z.zone.last == high)) ≡ true =
        In-all (only_enable low high) m.zones z.zone only z.is_in in
        let p = and_parts (z.zone.first == low) _ (rw c.0 at o) in
        let f : z.zone.first ≡ low = eqb-true _ _ p.0 in
        let l : z.zone.last ≡ high = eqb-true _ _ p.1 in
        let first' : z.zone.first ≤ a = leb-true _ _ (and_parts _ _ z.holds).0 in
        let last' : a ≤ z.zone.last = leb-true _ _ (and_parts _ _ z.holds).1 in
        (omega arith, omega arith, c.1)
    | inr far ↦ let e' = sym (ap (λ c. c.write) (no_class m h a far)) ∙ e in (cc, cc, cc)
  ],
  λ s. let i = In-from-any (is_enable low high) m.zones some in
      let p = and_parts (writes_enable i.0.write) _ i.2 in
      let q = and_parts (i.0.first == low) _ p.1 in
      let f : i.0.first ≡ low = eqb-true _ _ q.0 in
      let l : i.0.last ≡ high = eqb-true _ _ q.1 in
      let first' : i.0.first ≤ a = omega (arith, s.0) in
      let last' : a ≤ i.0.last = omega (arith, s.1) in
      let holds = and_from _ _ (le-leb i.0.first a first') (le-leb a i.0.last last') in
      ap (λ k. k.write) (class_of-in m h i.0 i.1 a holds) ∙ enable-class i.0.write a p.0 (eq-eqb _ _ s.2),
)

pub galaxian_enable : (n a : ℕ) → 1 ≤ n → n ≤ 0x4000 → ((class_of (galaxian n) a).write ≡ writes.NmiEnable) ↔ ((0x7000 ≤ a) × (a ≤ 0x77FF) × (a % 8 ≡ 1))
unfolding galaxian short_zones full_zones
galaxian_enable n a some fits =
    enable_addresses (galaxian n) (galaxian_is_map n some fits) 0x7000 0x77FF
    (by_length n galaxian_zones (λ zs. list_all (only_enable 0x7000 0x77FF) zs ≡ true) fits (λ h. refl) (λ h. refl))
    (by_length n galaxian_zones (λ zs. list_any (is_enable 0x7000 0x77FF) zs ≡ true) fits (λ h. refl) (λ h. refl)) a

pub raised_enable : (n a : ℕ) → 1 ≤ n → n ≤ 0x4000 → ((class_of (raised n) a).write ≡ writes.NmiEnable) ↔ ((0xB000 ≤ a) × (a ≤ 0xB7FF) × (a % 8 ≡ 1))
unfolding raised short_zones full_zones
raised_enable n a some fits =
    enable_addresses (raised n) (raised_is_map n some fits) 0xB000 0xB7FF
    (by_length n raised_zones (λ zs. list_all (only_enable 0xB000 0xB7FF) zs ≡ true) fits (λ h. refl) (λ h. refl))
    (by_length n raised_zones (λ zs. list_any (is_enable 0xB000 0xB7FF) zs ≡ true) fits (λ h. refl) (λ h. refl)) a

pub galaxian_rom_len : (n : ℕ) → (galaxian n).rom_len ≡ n
unfolding galaxian
galaxian_rom_len n = refl

pub raised_rom_len : (n : ℕ) → (raised n).rom_len ≡ n
unfolding raised
raised_rom_len n = refl

pub galaxian_work : (n : ℕ) → n ≤ 0x4000 → (work_start (galaxian n) ≡ 0x4000) × (work_last (galaxian n) ≡ 0x47FF)
unfolding galaxian work_start work_last short_zones full_zones
galaxian_work n fits =
    by_length n galaxian_zones (λ zs. ((first_zone names_work zs).first ≡ 0x4000) × ((first_zone names_work zs).last ≡ 0x47FF)) fits
    (λ h. (refl, refl)) (λ h. (refl, refl))

pub raised_work : (n : ℕ) → n ≤ 0x4000 → (work_start (raised n) ≡ 0x8000) × (work_last (raised n) ≡ 0x87FF)
unfolding raised work_start work_last short_zones full_zones
raised_work n fits =
    by_length n raised_zones (λ zs. ((first_zone names_work zs).first ≡ 0x8000) × ((first_zone names_work zs).last ≡ 0x87FF)) fits
    (λ h. (refl, refl)) (λ h. (refl, refl))
