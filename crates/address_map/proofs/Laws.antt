-- The laws of an address map: what the crates above need of `class_of`, `work_start` and `work_last`, each under
-- `IsMap`.
use Rattle.std.proofs.Common.{◌≡◌, ◌≢◌, ◌≤◌, ◌<◌, ◌+◌, ◌%◌, ◌↔◌, inl, inr, ℕ, true, refl, sym, ◌∙◌, ap, subst, arith, nat_le, Some, ◌==◌, ◌&&◌, ◌||◌}
use Rattle.std.specs.List.{count_by}
use Rattle.std.proofs.lemmas.Bool.{cases_Bool, and_parts, or_cases, and_from, leb-true, le-leb, eqb-true, or_left, or_right, cases_lt}
use Rattle.address_map.proofs.MapLemmas.{HasZone, class_of-in, zone_of, zone_ends}
use Rattle.address_map.proofs.ZoneLemmas.{In, In-all, first_zone-only, first_zone-in, first_zone-passes, first_zone-none}
use Rattle.address_map.specs.AddressMap.{MapView}
use Rattle.address_map.specs.MapLaw.{IsMap, has_work, has_rom}
use Rattle.address_map.specs.Class.{class_of}
use Rattle.address_map.specs.Cell.{cell_of, cell_of_class}
use Rattle.address_map.specs.WorkRam.{work_start, work_last}
use Rattle.address_map.specs.Zone.{in_zone, class_in, write_class, first_zone}
use Rattle.address_map.specs.ZoneUse.{names_work, fits_ram, one_ram, same_kind, names_rom, fits_rom, reads_rom, writes_rom, reads_work, writes_work}
use Rattle.address_map.specs.declared.cell.RamKind.{RamKind}
use Rattle.address_map.specs.declared.cell.RamKind.TheVariants.{Work, Video, Object}
use Rattle.address_map.specs.declared.map.ReadClass.{ReadClass}
use Rattle.address_map.specs.declared.map.ReadClass.TheVariants as reads
use Rattle.address_map.specs.declared.map.WriteClass.TheVariants as writes
use Rattle.address_map.specs.declared.region.Region.{Region}
use Rattle.address_map.specs.declared.zone.WriteUse.{WriteUse}
use Rattle.address_map.specs.declared.zone.WriteUse.TheVariants as uses
use Rattle.address_map.specs.declared.zone.Zone.{Zone}

-- the parts of the rules
one_work : (m : MapView) → IsMap m → count_by names_work m.zones ≡ 1
unfolding has_work
one_work m h = eqb-true _ _ (and_parts _ _ h.work).0

all_ram : (m : MapView) → IsMap m → (z : Zone) → In z m.zones → fits_ram z ≡ true
unfolding has_work
all_ram m h z i = In-all fits_ram m.zones z (and_parts (count_by names_work m.zones == 1) _ h.work).1 i

one_rom : (m : MapView) → IsMap m → count_by names_rom m.zones ≡ 1
unfolding has_rom
one_rom m h = eqb-true _ _ (and_parts _ _ h.rom).0

all_rom : (m : MapView) → IsMap m → (z : Zone) → In z m.zones → fits_rom m.rom_len z ≡ true
unfolding has_rom
all_rom m h z i = In-all (fits_rom m.rom_len) m.zones z (and_parts (count_by names_rom m.zones == 1) _ h.rom).1 i

-- the zone of work RAM
record WorkZone (m : MapView) : Type 0 where
  zone : Zone
  is_in : In zone m.zones
  reads : zone.read ≡ reads.Ram Work
  writes : zone.write ≡ uses.Ram Work
  start : zone.first ≡ work_start m
  last : zone.last ≡ work_last m
  multiple : zone.first % 0x400 ≡ 0
  size : zone.first + 0x400 ≤ zone.last + 1
  only : (z : Zone) → In z m.zones → names_work z ≡ true → z ≡ zone

reads-work : (r : ReadClass) → reads_work r ≡ true → r ≡ reads.Ram Work
reads-work (reads.Ram Work) e = refl
reads-work _ e = cc

writes-work : (u : WriteUse) → writes_work u ≡ true → u ≡ uses.Ram Work
writes-work (uses.Ram Work) e = refl
writes-work _ e = cc

work-reads : (r : ReadClass) → one_ram r (uses.Ram Work) ≡ true → r ≡ reads.Ram Work
work-reads (reads.Ram Work) e = refl
work-reads _ e = cc

work-writes : (u : WriteUse) → one_ram (reads.Ram Work) u ≡ true → u ≡ uses.Ram Work
work-writes (uses.Ram Work) e = refl
work-writes _ e = cc

both_work : (r : ReadClass) (u : WriteUse) → one_ram r u ≡ true → (reads_work r || writes_work u) ≡ true → (r ≡ reads.Ram Work) × (u ≡ uses.Ram Work)
both_work r u e n = elim (or_cases (reads_work r) (writes_work u) n) [
  | inl read ↦
      let same = reads-work r read in
      (same, work-writes u (subst (λ k. one_ram k u ≡ true) same e))
  | inr written ↦
      let same = writes-work u written in
      (work-reads r (subst (λ k. one_ram r k ≡ true) same e), same)
]

work_zone : (m : MapView) → IsMap m → WorkZone m
unfolding work_start work_last
work_zone m h =
    let one = one_work m h in
    let z = first_zone names_work m.zones in
    let i : In z m.zones = first_zone-in names_work m.zones (omega arith) in
    let n : names_work z ≡ true = first_zone-passes names_work m.zones (omega arith) in
    let f = and_parts _ _ (all_ram m h z i) in
    let b = both_work z.read z.write f.0 n in
    let g : (z.first % 0x400 == 0 && nat_le (z.first + 0x400) (z.last + 1)) ≡ true = rw n at f.1 in
    let p = and_parts _ _ g in
    record {
      zone = z;
      is_in = i;
      reads = b.0;
      writes = b.1;
      start = refl;
      last = refl;
      multiple = eqb-true _ _ p.0;
      size = leb-true _ _ p.1;
      only = λ y j e. sym (first_zone-only names_work m.zones y (omega arith) j e);
    }

-- work RAM begins at a multiple of 400h, has at least 400h addresses, and ends at FFFF or below
pub work_start_multiple : (m : MapView) → IsMap m → work_start m % 0x400 ≡ 0
work_start_multiple m h = let w = work_zone m h in subst (λ n. n % 0x400 ≡ 0) w.start w.multiple

pub work_size : (m : MapView) → IsMap m → work_start m + 0x400 ≤ work_last m + 1
work_size m h =
    let w = work_zone m h in
    let start : w.zone.first ≡ work_start m = w.start in
    let last : w.zone.last ≡ work_last m = w.last in
    let size : w.zone.first + 0x400 ≤ w.zone.last + 1 = w.size in
    omega arith

pub work_last_fits : (m : MapView) → IsMap m → work_last m < 0x10000
work_last_fits m h =
    let w = work_zone m h in
    let last : w.zone.last ≡ work_last m = w.last in
    let fits : w.zone.last < 0x10000 = zone_ends m h w.zone w.is_in in
    omega arith

-- the addresses from `work_start` to `work_last` are work RAM, for reading and for writing
pub is_work : (m : MapView) → IsMap m → (a : ℕ) → work_start m ≤ a → a ≤ work_last m
    → class_of m a ≡ record { read = reads.Ram Work; write = writes.Ram Work }
is_work m h a low high =
    let w = work_zone m h in
    let start : w.zone.first ≡ work_start m = w.start in
    let last : w.zone.last ≡ work_last m = w.last in
    let first' : w.zone.first ≤ a = omega arith in
    let last' : a ≤ w.zone.last = omega arith in
    let holds = and_from _ _ (le-leb w.zone.first a first') (le-leb a w.zone.last last') in
    class_of-in m h w.zone w.is_in a holds ∙ rw (w.reads, w.writes) refl

-- an address in no zone is open
pub no_class : (m : MapView) → IsMap m → (a : ℕ) → 0x10000 ≤ a → class_of m a ≡ record { read = reads.Open; write = writes.Unmapped }
unfolding class_of
no_class m h a far =
    ap (λ z. class_in z a) (first_zone-none (in_zone a) m.zones (λ z i. elim (cases_Bool (in_zone a z)) [
      | inl t ↦
          let ends : z.last < 0x10000 = zone_ends m h z i in
          let last : a ≤ z.last = leb-true _ _ (and_parts _ _ t).1 in
          absurd (omega arith)
      | inr f ↦ f
    ]))

work-use : (u : WriteUse) (a : ℕ) → write_class u a ≡ writes.Ram Work → writes_work u ≡ true
work-use (uses.Ram Work) a e = refl
work-use uses.LatchWithEnable a e = elim (cases_Bool (a % 8 == 1)) [
  | inl t ↦ let e' : writes.NmiEnable ≡ writes.Ram Work = rw t at e in (cc)
  | inr f ↦ let e' : writes.Latch (a % 8) ≡ writes.Ram Work = rw f at e in (cc)
]
work-use _ a e = cc

-- no other address is work RAM
pub work_interval : (m : MapView) → IsMap m → (a : ℕ) → (class_of m a).write ≡ writes.Ram Work → (work_start m ≤ a) × (a ≤ work_last m)
work_interval m h a e = elim (cases_lt a 0x10000) [
  | inl near ↦
      let z = zone_of m h a near in
      let w = work_zone m h in
      let written : write_class z.zone.write a ≡ writes.Ram Work = sym (ap (λ c. c.write) z.class) ∙ e in
      let named : names_work z.zone ≡ true = or_right (reads_work z.zone.read) _ (work-use z.zone.write a written) in
      let same = w.only z.zone z.is_in named in
      let start : w.zone.first ≡ work_start m = w.start in
      let last : w.zone.last ≡ work_last m = w.last in
      let first' : z.zone.first ≤ a = leb-true _ _ (and_parts _ _ z.holds).0 in
      let last' : a ≤ z.zone.last = leb-true _ _ (and_parts _ _ z.holds).1 in
      let f : z.zone.first ≡ w.zone.first = ap (λ y. y.first) same in
      let l : z.zone.last ≡ w.zone.last = ap (λ y. y.last) same in
      (omega arith, omega arith)
  | inr far ↦
      let e' = sym (ap (λ c. c.write) (no_class m h a far)) ∙ e in (cc)
]

-- the byte of a region in the first 400h addresses of work RAM is work RAM and has a cell of its own
pub region_byte : (m : MapView) → IsMap m → (region : Region) → work_start m ≤ region.low → region.top ≤ work_start m + 0x400
    → (a : ℕ) → region.low ≤ a → a < region.top → class_of m a ≡ record { read = reads.Ram Work; write = writes.Ram Work }
region_byte m h region low top a from below =
    let size : work_start m + 0x400 ≤ work_last m + 1 = work_size m h in
    is_work m h a (omega arith) (omega arith)

pub region_cell : (m : MapView) → IsMap m → (region : Region) → work_start m ≤ region.low → region.top ≤ work_start m + 0x400
    → (a : ℕ) → region.low ≤ a → a < region.top → cell_of m a ≡ Some (Work, a % 0x400)
region_cell m h region low top a from below =
    ap (λ c. cell_of_class c.write a) (region_byte m h region low top a from below)

pub region_apart : (m : MapView) → IsMap m → (region : Region) → work_start m ≤ region.low → region.top ≤ work_start m + 0x400
    → (a b : ℕ) → region.low ≤ a → a < region.top → region.low ≤ b → b < region.top → a ≢ b → a % 0x400 ≢ b % 0x400
region_apart m h region low top a b fa ba fb bb ne same =
    let multiple = work_start_multiple m h in
    ne (omega arith)

-- the zone of the ROM
record RomZone (m : MapView) : Type 0 where
  zone : Zone
  is_in : In zone m.zones
  reads : zone.read ≡ reads.Rom
  writes : zone.write ≡ uses.Rom
  first : zone.first ≡ 0
  last : zone.last + 1 ≡ m.rom_len
  only : (z : Zone) → In z m.zones → names_rom z ≡ true → z ≡ zone

reads-rom : (r : ReadClass) → reads_rom r ≡ true → r ≡ reads.Rom
reads-rom reads.Rom e = refl
reads-rom _ e = cc

writes-rom : (u : WriteUse) → writes_rom u ≡ true → u ≡ uses.Rom
writes-rom uses.Rom e = refl
writes-rom _ e = cc

rom_zone : (m : MapView) → IsMap m → RomZone m
rom_zone m h =
    let one = one_rom m h in
    let z = first_zone names_rom m.zones in
    let i : In z m.zones = first_zone-in names_rom m.zones (omega arith) in
    let n : names_rom z ≡ true = first_zone-passes names_rom m.zones (omega arith) in
    let g : ((reads_rom z.read && writes_rom z.write) && (z.first == 0 && z.last + 1 == m.rom_len)) ≡ true =
    rw n at (all_rom m h z i) in
    let p = and_parts _ _ g in
    let q = and_parts _ _ p.0 in
    let r = and_parts _ _ p.1 in
    record {
      zone = z;
      is_in = i;
      reads = reads-rom z.read q.0;
      writes = writes-rom z.write q.1;
      first = eqb-true _ _ r.0;
      last = eqb-true _ _ r.1;
      only = λ y j e. sym (first_zone-only names_rom m.zones y (omega arith) j e);
    }

-- the addresses below the ROM's length are ROM, for reading and for writing
pub is_rom : (m : MapView) → IsMap m → (a : ℕ) → a < m.rom_len → class_of m a ≡ record { read = reads.Rom; write = writes.Rom }
is_rom m h a low =
    let w = rom_zone m h in
    let first : w.zone.first ≡ 0 = w.first in
    let last : w.zone.last + 1 ≡ m.rom_len = w.last in
    let first' : w.zone.first ≤ a = omega arith in
    let last' : a ≤ w.zone.last = omega arith in
    let holds = and_from _ _ (le-leb w.zone.first a first') (le-leb a w.zone.last last') in
    class_of-in m h w.zone w.is_in a holds ∙ rw (w.reads, w.writes) refl

pub rom_some : (m : MapView) → IsMap m → 1 ≤ m.rom_len
rom_some m h =
    let w = rom_zone m h in
    let last : w.zone.last + 1 ≡ m.rom_len = w.last in
    omega arith

pub rom_fits : (m : MapView) → IsMap m → m.rom_len ≤ 0x10000
rom_fits m h =
    let w = rom_zone m h in
    let last : w.zone.last + 1 ≡ m.rom_len = w.last in
    let ends : w.zone.last < 0x10000 = zone_ends m h w.zone w.is_in in
    omega arith

rom-use : (u : WriteUse) (a : ℕ) → write_class u a ≡ writes.Rom → writes_rom u ≡ true
rom-use uses.Rom a e = refl
rom-use uses.LatchWithEnable a e = elim (cases_Bool (a % 8 == 1)) [
  | inl t ↦ let e' : writes.NmiEnable ≡ writes.Rom = rw t at e in (cc)
  | inr f ↦ let e' : writes.Latch (a % 8) ≡ writes.Rom = rw f at e in (cc)
]
rom-use _ a e = cc

in_rom : (m : MapView) → IsMap m → (a : ℕ) → (z : HasZone m a) → names_rom z.zone ≡ true → a < m.rom_len
in_rom m h a z named =
    let w = rom_zone m h in
    let last : w.zone.last + 1 ≡ m.rom_len = w.last in
    let last' : a ≤ z.zone.last = leb-true _ _ (and_parts _ _ z.holds).1 in
    let l : z.zone.last ≡ w.zone.last = ap (λ y. y.last) (w.only z.zone z.is_in named) in
    omega arith

-- no other address is ROM, for writing or for reading
pub rom_write : (m : MapView) → IsMap m → (a : ℕ) → (class_of m a).write ≡ writes.Rom → a < m.rom_len
rom_write m h a e = elim (cases_lt a 0x10000) [
  | inl near ↦
      let z = zone_of m h a near in
      let written : write_class z.zone.write a ≡ writes.Rom = sym (ap (λ c. c.write) z.class) ∙ e in
      in_rom m h a z (or_right (reads_rom z.zone.read) _ (rom-use z.zone.write a written))
  | inr far ↦ let e' = sym (ap (λ c. c.write) (no_class m h a far)) ∙ e in (cc)
]

pub rom_read : (m : MapView) → IsMap m → (a : ℕ) → (class_of m a).read ≡ reads.Rom → a < m.rom_len
rom_read m h a e = elim (cases_lt a 0x10000) [
  | inl near ↦
      let z = zone_of m h a near in
      let written : z.zone.read ≡ reads.Rom = sym (ap (λ c. c.read) z.class) ∙ e in
      in_rom m h a z (or_left _ (writes_rom z.zone.write) (rw written refl))
  | inr far ↦ let e' = sym (ap (λ c. c.read) (no_class m h a far)) ∙ e in (cc)
]

kinds-same : (j i : RamKind) → same_kind j i ≡ true → j ≡ i
kinds-same Work Work e = refl
kinds-same Video Video e = refl
kinds-same Object Object e = refl
kinds-same _ _ e = cc

-- an address that writes a RAM lies in a zone with that use
ram-use : (u : WriteUse) (a : ℕ) (k : RamKind) → write_class u a ≡ writes.Ram k → u ≡ uses.Ram k
ram-use (uses.Ram j) a k e = cc
ram-use uses.LatchWithEnable a k e = elim (cases_Bool (a % 8 == 1)) [
  | inl t ↦ let e' : writes.NmiEnable ≡ writes.Ram k = rw t at e in (cc)
  | inr f ↦ let e' : writes.Latch (a % 8) ≡ writes.Ram k = rw f at e in (cc)
]
ram-use _ a k e = cc

read-ram : (r : ReadClass) (k : RamKind) → one_ram r (uses.Ram k) ≡ true → r ≡ reads.Ram k
read-ram (reads.Ram j) k e = ap reads.Ram (kinds-same j k e)
read-ram reads.Rom k e = cc
read-ram (reads.Input i) k e = cc
read-ram reads.Open k e = cc

write-ram : (u : WriteUse) (k : RamKind) → one_ram (reads.Ram k) u ≡ true → u ≡ uses.Ram k
write-ram (uses.Ram j) k e = ap uses.Ram (sym (kinds-same k j e))
write-ram _ k e = cc

-- an address reads the RAM that it writes, and conversely
ram_same : (r : ReadClass) (u : WriteUse) (a : ℕ) → one_ram r u ≡ true → (k : RamKind) → (r ≡ reads.Ram k) ↔ (write_class u a ≡ writes.Ram k)
ram_same r u a e k = (
  λ h. ap (λ v. write_class v a) (write-ram u k (subst (λ v. one_ram v u ≡ true) h e)),
  λ h. read-ram r k (subst (λ v. one_ram r v ≡ true) (ram-use u a k h) e),
)

pub ram_both : (m : MapView) → IsMap m → (a : ℕ) (k : RamKind) → ((class_of m a).read ≡ reads.Ram k) ↔ ((class_of m a).write ≡ writes.Ram k)
ram_both m h a k = elim (cases_lt a 0x10000) [
  | inl near ↦
      let z = zone_of m h a near in
      let one : one_ram z.zone.read z.zone.write ≡ true = (and_parts _ _ (all_ram m h z.zone z.is_in)).0 in
      subst (λ c. (c.read ≡ reads.Ram k) ↔ (c.write ≡ writes.Ram k)) (sym z.class) (ram_same z.zone.read z.zone.write a one k)
  | inr far ↦
      subst (λ c. (c.read ≡ reads.Ram k) ↔ (c.write ≡ writes.Ram k)) (sym (no_class m h a far)) (λ e. (cc), λ e. (cc))
]
