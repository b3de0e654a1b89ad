-- The zone of an address, and the class that it gives.
use Rattle.std.proofs.Common.{◌≡◌, ◌≤◌, ◌<◌, ◌%◌, ℕ, true, inl, inr, refl, ap, arith, nat_lt, Option, Some, None, ◌==◌}
use Rattle.std.specs.List.{count_by}
use Rattle.std.proofs.lemmas.Bool.{cases_Bool, and_parts, leb-true, ltb-true, eqb-true}
use Rattle.address_map.proofs.ZoneLemmas.{In, In-all, first_zone-only, first_zone-in, first_zone-passes}
use Rattle.address_map.specs.AddressMap.{MapView}
use Rattle.address_map.specs.MapLaw.{IsMap, zones_at}
use Rattle.address_map.specs.Class.{class_of}
use Rattle.address_map.specs.Cell.{cell_of_class}
use Rattle.address_map.specs.Shared.{writes_open, writes_enable}
use Rattle.address_map.specs.Zone.{in_zone, class_in, write_class}
use Rattle.address_map.specs.ZoneUse.{writes_rom, writes_work}
use Rattle.address_map.specs.declared.cell.RamKind.{RamKind}
use Rattle.address_map.specs.declared.cell.RamKind.TheVariants.{Work, Video, Object}
use Rattle.address_map.specs.declared.map.WriteClass.TheVariants as writes
use Rattle.address_map.specs.declared.zone.WriteUse.{WriteUse}
use Rattle.address_map.specs.declared.zone.WriteUse.TheVariants as uses
use Rattle.address_map.specs.declared.zone.Zone.{Zone}

one_at : (m : MapView) → IsMap m → (a : ℕ) → a < 0x10000 → count_by (in_zone a) m.zones ≡ 1
unfolding zones_at
one_at m h a lt = h.one_zone a lt

-- no zone of a map contains an address above FFFF
pub zone_ends : (m : MapView) → IsMap m → (z : Zone) → In z m.zones → z.last < 0x10000
zone_ends m h z i = ltb-true _ _ (In-all (λ y. nat_lt y.last 0x10000) m.zones z h.ends i)

-- the class of an address is that of the zone that contains it
pub class_of-in : (m : MapView) → IsMap m → (z : Zone) → In z m.zones → (a : ℕ) → in_zone a z ≡ true → class_of m a ≡ class_in z a
unfolding class_of
class_of-in m h z i a e =
    let last : z.last < 0x10000 = zone_ends m h z i in
    let within : a ≤ z.last = leb-true _ _ (and_parts _ _ e).1 in
    let one = one_at m h a (omega arith) in
    ap (λ y. class_in y a) (first_zone-only (in_zone a) m.zones z (omega arith) i e)

-- the zone of an address
pub record HasZone (m : MapView) (a : ℕ) : Type 0 where
  pub zone : Zone
  pub is_in : In zone m.zones
  pub holds : in_zone a zone ≡ true
  pub class : class_of m a ≡ class_in zone a

pub zone_of : (m : MapView) → IsMap m → (a : ℕ) → a < 0x10000 → HasZone m a
zone_of m h a lt =
    let one = one_at m h a lt in
    let i = first_zone-in (in_zone a) m.zones (omega arith) in
    let e = first_zone-passes (in_zone a) m.zones (omega arith) in
    record { zone = _; is_in = i; holds = e; class = class_of-in m h _ i a e }

-- the class that each use gives
pub rom-class : (u : WriteUse) (a : ℕ) → writes_rom u ≡ true → write_class u a ≡ writes.Rom
rom-class uses.Rom a e = refl
rom-class _ a e = cc

pub class-rom : (u : WriteUse) (a : ℕ) → write_class u a ≡ writes.Rom → writes_rom u ≡ true
class-rom uses.Rom a e = refl
class-rom uses.LatchWithEnable a e = elim (cases_Bool (a % 8 == 1)) [
  | inl t ↦ let e' : writes.NmiEnable ≡ writes.Rom = rw t at e in (cc)
  | inr f ↦ let e' : writes.Latch (a % 8) ≡ writes.Rom = rw f at e in (cc)
]
class-rom _ a e = cc

pub open-class : (u : WriteUse) (a : ℕ) → writes_open u ≡ true → write_class u a ≡ writes.Unmapped
open-class uses.Open a e = refl
open-class _ a e = cc

pub class-open : (u : WriteUse) (a : ℕ) → write_class u a ≡ writes.Unmapped → writes_open u ≡ true
class-open uses.Open a e = refl
class-open uses.LatchWithEnable a e = elim (cases_Bool (a % 8 == 1)) [
  | inl t ↦ let e' : writes.NmiEnable ≡ writes.Unmapped = rw t at e in (cc)
  | inr f ↦ let e' : writes.Latch (a % 8) ≡ writes.Unmapped = rw f at e in (cc)
]
class-open _ a e = cc

pub enable-class : (u : WriteUse) (a : ℕ) → writes_enable u ≡ true → (a % 8 == 1) ≡ true → write_class u a ≡ writes.NmiEnable
enable-class uses.LatchWithEnable a e one = rw one refl
enable-class _ a e one = cc

pub class-enable : (u : WriteUse) (a : ℕ) → write_class u a ≡ writes.NmiEnable → (writes_enable u ≡ true) × (a % 8 ≡ 1)
class-enable uses.LatchWithEnable a e = elim (cases_Bool (a % 8 == 1)) [
  | inl t ↦ (refl, eqb-true _ _ t)
  | inr f ↦ let e' : writes.Latch (a % 8) ≡ writes.NmiEnable = rw f at e in (cc)
]
class-enable _ a e = cc

pub work-cell : (u : WriteUse) (a : ℕ) → writes_work u ≡ true → cell_of_class (write_class u a) a ≡ Some (Work, a % 0x400)
work-cell (uses.Ram Work) a e = refl
work-cell _ a e = cc

abbrev index_of : Option (RamKind × ℕ) → ℕ
index_of None = 0
index_of (Some cell) = cell.1

abbrev kind_of : Option (RamKind × ℕ) → RamKind
kind_of None = Work
kind_of (Some cell) = cell.0

pub cell-work : (u : WriteUse) (a n : ℕ) → cell_of_class (write_class u a) a ≡ Some (Work, n) → (writes_work u ≡ true) × (a % 0x400 ≡ n)
cell-work (uses.Ram Work) a n e = (refl, ap index_of e)
cell-work uses.LatchWithEnable a n e = elim (cases_Bool (a % 8 == 1)) [
  | inl t ↦ let e' : cell_of_class writes.NmiEnable a ≡ Some (Work, n) = rw t at e in (cc, cc)
  | inr f ↦ let e' : cell_of_class (writes.Latch (a % 8)) a ≡ Some (Work, n) = rw f at e in (cc, cc)
]
cell-work (uses.Ram Video) a n e = let kind : Video ≡ Work = ap kind_of e in (cc, cc)
cell-work (uses.Ram Object) a n e = let kind : Object ≡ Work = ap kind_of e in (cc, cc)
cell-work _ a n e = (cc, cc)
