-- The zones of a map decide about the addresses of a range.
use Rattle.std.proofs.Common.{◌≡◌, ◌≤◌, ◌<◌, ◌+◌, ◌-◌, ◌%◌, ◌↔◌, ℕ, Bool, true, inl, inr, sym, ◌∙◌, ap, subst, arith, Some}
use Rattle.std.specs.List.{list_any}
use Rattle.std.proofs.lemmas.Bool.{and_parts, and_from, leb-true, le-leb, lt-ltb, ltb-true, eq-eqb, cases_lt}
use Rattle.address_map.proofs.MapLemmas.{class_of-in, zone_of, rom-class, class-rom, open-class, class-open, enable-class, class-enable, work-cell, cell-work}
use Rattle.address_map.proofs.ZoneLemmas.{In-any, In-from-any}
use Rattle.address_map.specs.AddressMap.{MapView}
use Rattle.address_map.specs.MapLaw.{IsMap}
use Rattle.address_map.specs.Class.{class_of}
use Rattle.address_map.specs.Cell.{cell_of, cell_of_class}
use Rattle.address_map.specs.Ranges.{SomeWrite, SomeAtCell, SomeInRegion}
use Rattle.address_map.specs.Shared.{rom_in, unmapped_in, enable_in, cell_in, share_cell, low_in, high_in}
use Rattle.address_map.specs.Zone.{in_zone, class_in}
use Rattle.address_map.specs.declared.cell.RamKind.TheVariants.{Work}
use Rattle.address_map.specs.declared.map.Class.{Class}
use Rattle.address_map.specs.declared.map.WriteClass.TheVariants as writes
use Rattle.address_map.specs.declared.region.Region.{Region}
use Rattle.address_map.specs.declared.zone.Zone.{Zone}
use Rattle.intervals.specs.Range.{RangeView, Within}

holds-from : (z : Zone) (a : ℕ) → z.first ≤ a → a ≤ z.last → in_zone a z ≡ true
holds-from z a f l = and_from _ _ (le-leb _ _ f) (le-leb _ _ l)

-- an address of the range in the zone with the property P
abbrev pub Found : (Class → ℕ → Type 0) → RangeView → Zone → Type 0
Found P range z = (a : ℕ) × (low_in range z ≤ a) × (a ≤ high_in range z) × P (class_in z a) a

-- a test of zones decides about the addresses
pub some_iff : (P : Class → ℕ → Type 0) (t : Zone → Bool) (m : MapView) (range : RangeView) → IsMap m → range.high < 0x10000
    → ((z : Zone) → t z ≡ true → Found P range z) → ((z : Zone) → Found P range z → t z ≡ true)
    → (list_any t m.zones ≡ true) ↔ ((a : ℕ) × Within range a × P (class_of m a) a)
some_iff P t m range h high to from = (
  λ e. let i = In-from-any t m.zones e in
      let f = to i.0 i.2 in
      let lo : low_in range i.0 ≤ f.0 = f.1 in
      let hi : f.0 ≤ high_in range i.0 = f.2 in
      let holds = holds-from i.0 f.0 (omega arith) (omega arith) in
      (f.0, (omega arith, omega arith), subst (λ c. P c f.0) (sym (class_of-in m h i.0 i.1 f.0 holds)) f.3),
  λ s. let lo : range.low ≤ s.0 = s.1.0 in
      let hi : s.0 ≤ range.high = s.1.1 in
      let z = zone_of m h s.0 (omega arith) in
      let first : z.zone.first ≤ s.0 = leb-true _ _ (and_parts _ _ z.holds).0 in
      let last : s.0 ≤ z.zone.last = leb-true _ _ (and_parts _ _ z.holds).1 in
      In-any t m.zones z.zone z.is_in (from z.zone (s.0, omega arith, omega arith, subst (λ c. P c s.0) z.class s.2)),
)

pub some_rom : (m : MapView) (range : RangeView) → IsMap m → range.high < 0x10000 → (list_any (rom_in range) m.zones ≡ true) ↔ SomeWrite m range writes.Rom
some_rom m range h high = some_iff (λ c a. c.write ≡ writes.Rom) (rom_in range) m range h high
    (λ z e. let p = and_parts _ _ e in
    let overlap = leb-true _ _ p.1 in
    (low_in range z, omega arith, overlap, rom-class z.write _ p.0))
    (λ z f. let lo : low_in range z ≤ f.0 = f.1 in
    let hi : f.0 ≤ high_in range z = f.2 in
    and_from _ _ (class-rom z.write f.0 f.3) (le-leb _ _ (omega arith)))

pub some_unmapped : (m : MapView) (range : RangeView) → IsMap m → range.high < 0x10000 → (list_any (unmapped_in range) m.zones ≡ true) ↔ SomeWrite m range writes.Unmapped
some_unmapped m range h high = some_iff (λ c a. c.write ≡ writes.Unmapped) (unmapped_in range) m range h high
    (λ z e. let p = and_parts _ _ e in
    let overlap = leb-true _ _ p.1 in
    (low_in range z, omega arith, overlap, open-class z.write _ p.0))
    (λ z f. let lo : low_in range z ≤ f.0 = f.1 in
    let hi : f.0 ≤ high_in range z = f.2 in
    and_from _ _ (class-open z.write f.0 f.3) (le-leb _ _ (omega arith)))

one_of_eight : (high : ℕ) → (high + 7) % 8 ≤ high → (high - (high + 7) % 8) % 8 ≡ 1
one_of_eight high h = omega arith

enable_below : (low a high : ℕ) → low ≤ a → a ≤ high → a % 8 ≡ 1 → low + (high + 7) % 8 ≤ high
enable_below low a high l h one = omega arith

pub some_enable : (m : MapView) (range : RangeView) → IsMap m → range.high < 0x10000 → (list_any (enable_in range) m.zones ≡ true) ↔ SomeWrite m range writes.NmiEnable
some_enable m range h high = some_iff (λ c a. c.write ≡ writes.NmiEnable) (enable_in range) m range h high
    (λ z e. let p = and_parts _ _ e in
    let overlap = leb-true _ _ p.1 in
    let one = one_of_eight (high_in range z) (omega arith) in
    (high_in range z - (high_in range z + 7) % 8, omega arith, omega arith, enable-class z.write _ p.0 (eq-eqb _ _ one)))
    (λ z f. let lo : low_in range z ≤ f.0 = f.1 in
    let hi : f.0 ≤ high_in range z = f.2 in
    let c = class-enable z.write f.0 f.3 in
    and_from _ _ c.0 (le-leb _ _ (enable_below (low_in range z) f.0 (high_in range z) lo hi c.1)))

-- two numbers that are congruent modulo 400h
pub record Sharing (low high from end : ℕ) : Type 0 where
  pub address : ℕ
  pub other : ℕ
  pub above_low : low ≤ address
  pub below_high : address ≤ high
  pub above_from : from ≤ other
  pub below_end : other < end
  pub same : address % 0x400 ≡ other % 0x400

same_cell : (a r d : ℕ) → a + 0x10000 ≡ r + d → d % 0x400 ≡ 0 → a % 0x400 ≡ r % 0x400
same_cell a r d e m = omega arith

cut_is_multiple : (n : ℕ) → (n - n % 0x400) % 0x400 ≡ 0
cut_is_multiple n = omega arith

sharing : (low high from end cut : ℕ) → low ≤ high → from < end → end ≤ 0x10000 → cut % 0x400 ≡ 0 → cut ≤ (high + 0x10000) - from → low + 0x10001 ≤ cut + end → Sharing low high from end
sharing low high from end cut lh fe small m top bottom = elim (cases_lt (low + 0x10000) (from + cut)) [
  | inl above ↦ record {
    address = (from + cut) - 0x10000;
    other = from;
    above_low = omega arith;
    below_high = omega arith;
    above_from = omega arith;
    below_end = omega arith;
    same = same_cell _ _ cut (omega arith) m;
  }
  | inr below ↦ record {
    address = low;
    other = (low + 0x10000) - cut;
    above_low = omega arith;
    below_high = omega arith;
    above_from = omega arith;
    below_end = omega arith;
    same = same_cell _ _ cut (omega arith) m;
  }
]

pub share-to : (low high from end : ℕ) → end ≤ 0x10000 → share_cell low high from end ≡ true → Sharing low high from end
share-to low high from end small e =
    let p = and_parts _ _ e in
    let q = and_parts _ _ p.0 in
    let lh = leb-true _ _ q.0 in
    let fe = ltb-true _ _ q.1 in
    let bottom = leb-true _ _ p.1 in
    let n = (high + 0x10000) - from in
    sharing low high from end (n - n % 0x400) lh fe small (cut_is_multiple n) (omega arith) (omega arith)

share_bound : (low high from end a r : ℕ) → low ≤ a → a ≤ high → from ≤ r → r < end → end ≤ 0x10000 → a % 0x400 ≡ r % 0x400
    → low + 0x10001 ≤ ((high + 0x10000) - from) - ((high + 0x10000) - from) % 0x400 + end
share_bound low high from end a r la ah fr re small same = omega arith

pub share-from : (low high from end : ℕ) → end ≤ 0x10000 → Sharing low high from end → share_cell low high from end ≡ true
share-from low high from end small s =
    let lh : low ≤ high = omega arith in
    let fe : from < end = omega arith in
    and_from _ _ (and_from _ _ (le-leb _ _ lh) (lt-ltb _ _ fe))
    (le-leb _ _ (share_bound low high from end s.address s.other s.above_low s.below_high s.above_from s.below_end small s.same))

-- an address of the range folds to the cell of a number from `from` to `end` - 1
abbrev pub FoldsFrom : ℕ → ℕ → Class → ℕ → Type 0
FoldsFrom from end c a = (other : ℕ) × (from ≤ other) × (other < end) × (cell_of_class c.write a ≡ Some (Work, other % 0x400))

pub some_cell : (m : MapView) (range : RangeView) (from end : ℕ) → IsMap m → range.high < 0x10000 → end ≤ 0x10000
    → (list_any (cell_in from end range) m.zones ≡ true) ↔ ((a : ℕ) × Within range a × FoldsFrom from end (class_of m a) a)
some_cell m range from end h high small = some_iff (FoldsFrom from end) (cell_in from end range) m range h high
    (λ z e. let p = and_parts _ _ e in
    let s = share-to _ _ from end small p.1 in (
      s.address,
      s.above_low,
      s.below_high,
      (
        s.other,
        s.above_from,
        s.below_end,
        work-cell z.write s.address p.0 ∙ ap (λ n. Some (Work, n)) s.same,
      ),
    ))
    (λ z f. let g = f.3 in
    let c = cell-work z.write f.0 (g.0 % 0x400) g.3 in
    and_from _ _ c.0 (share-from _ _ from end small (record {
      address = f.0;
      other = g.0;
      above_low = f.1;
      below_high = f.2;
      above_from = g.1;
      below_end = g.2;
      same = c.1;
    })))

pub at_cell : (m : MapView) (range : RangeView) (index : ℕ) → IsMap m → range.high < 0x10000 → index < 0x10000
    → (list_any (cell_in index (index + 1) range) m.zones ≡ true) ↔ SomeAtCell m range index
at_cell m range index h high small =
    let i = some_cell m range index (index + 1) h high (omega arith) in (
      λ e. let r = i.0 e in
          let above : index ≤ r.2.0 = r.2.1 in
          let below : r.2.0 < index + 1 = r.2.2 in
          let same : r.2.0 ≡ index = omega arith in
          (r.0, r.1, subst (λ n. cell_of m r.0 ≡ Some (Work, n % 0x400)) same r.2.3),
      λ s. i.1 (s.0, s.1, (index, omega arith, omega arith, s.2)),
    )

pub in_region : (m : MapView) (range : RangeView) (region : Region) → IsMap m → range.high < 0x10000 → region.top ≤ 0x10000
    → (list_any (cell_in region.low region.top range) m.zones ≡ true) ↔ SomeInRegion m range region
in_region m range region h high small = some_cell m range region.low region.top h high small
