-- The bytes at the addresses of a stack region, after bytes were stored.
use Rattle.std.proofs.Common.{◌≡◌, ◌≢◌, ◌<◌, ◌≤◌, ◌%◌, ℕ, List, [], ◌∷◌, length, slice_set, Option, Some, None, refl, sym, ap, ◌∙◌, arith}
use Rattle.std.proofs.lemmas.List.{get_or-set_same, get_or-set_other, length-set}
use Rattle.std.proofs.lemmas.List.Elements.{All-head, All-tail}
use Rattle.address_map.proofs.Laws.{region_apart, region_byte}
use Rattle.address_map.specs.AddressMap.{MapView}
use Rattle.address_map.specs.Class.{class_of}
use Rattle.address_map.specs.Cell.{cell_of_class}
use Rattle.address_map.specs.Ranges.{FoldsInto}
use Rattle.address_map.specs.declared.cell.RamKind.TheVariants.{Work, Video, Object}
use Rattle.address_map.specs.declared.map.ReadClass.TheVariants as reads
use Rattle.address_map.specs.declared.map.WriteClass.{WriteClass}
use Rattle.address_map.specs.declared.map.WriteClass.TheVariants as writes
use Rattle.address_map.specs.declared.region.Region.{Region}
use Rattle.z80_draft.specs.declared.access.Write.{Write}
use Rattle.z80_draft.specs.declared.access.StackAccess.{StackAccess}
use Rattle.board_step.specs.Memory.{stored, stored_in, stored_all, stacked_all, stacked_one}
use Rattle.board_step.specs.State.{BoardView}
use Rattle.board_laws.specs.Board.{HasWords}
use Rattle.board_laws.specs.Region.{IsStackRegion, Misses, used}
use Rattle.board_laws.specs.Words.{work_byte, Lays}

-- each address of the region is work RAM
pub region_class : (map : MapView) (region : Region) → IsStackRegion map region → (at : ℕ) → region.low ≤ at → at < region.top
    → class_of map at ≡ record { read = reads.Ram Work; write = writes.Ram Work }
region_class map region r at from to = region_byte map r.is_map region r.low r.top at from to

stored_work : (map : MapView) (at byte : ℕ) (s : BoardView) → class_of map at ≡ record { read = reads.Ram Work; write = writes.Ram Work }
    → stored map at byte s ≡ record s { work = slice_set s.work (at % 0x400) byte }
unfolding stored
stored_work map at byte s is = ap (λ c. stored_in c.write at byte s) is

-- a byte stored at an address of the region is the byte at that address
pub byte_stored : (map : MapView) (region : Region) → IsStackRegion map region → (at byte : ℕ) (s : BoardView) → length s.work ≡ 0x400
    → region.low ≤ at → at < region.top → work_byte (stored map at byte s) at ≡ byte
byte_stored map region r at byte s size from to =
    ap (λ (t : BoardView). work_byte t at) (stored_work map at byte s (region_class map region r at from to))
    ∙ get_or-set_same s.work (at % 0x400) byte 0 (omega arith)

-- it changes no other address
pub byte_kept : (map : MapView) (region : Region) → IsStackRegion map region → (at byte x : ℕ) (s : BoardView)
    → region.low ≤ at → at < region.top → region.low ≤ x → x < region.top → x ≢ at → work_byte (stored map at byte s) x ≡ work_byte s x
byte_kept map region r at byte x s from to low high other =
    ap (λ (t : BoardView). work_byte t x) (stored_work map at byte s (region_class map region r at from to))
    ∙ get_or-set_other s.work (at % 0x400) (x % 0x400) byte 0 (region_apart map r.is_map region r.low r.top x at low high from to other)

-- ---- data writes

-- a byte stored at an address that folds to no cell of a region keeps the region's bytes
byte_missed : (map : MapView) (region : Region) (at byte x : ℕ) (s : BoardView) → (FoldsInto map region at → ⊥) → region.low ≤ x → x < region.top
    → work_byte (stored map at byte s) x ≡ work_byte s x
unfolding stored
byte_missed map region at byte x s misses low high = by (class_of map at).write refl
  where
    apart : (class_of map at).write ≡ writes.Ram Work → x % 0x400 ≢ at % 0x400
    apart e same = misses (x, low, high, ap (λ c. cell_of_class c at) e ∙ ap (λ (n : ℕ). Some (Work, n)) (sym same))

    by : (c : WriteClass) → (class_of map at).write ≡ c → work_byte (stored_in (class_of map at).write at byte s) x ≡ work_byte s x
    by (writes.Ram Work) e = ap (λ (c : WriteClass). work_byte (stored_in c at byte s) x) e ∙ get_or-set_other s.work (at % 0x400) (x % 0x400) byte 0 (apart e)
    by (writes.Ram Video) e = ap (λ (c : WriteClass). work_byte (stored_in c at byte s) x) e
    by (writes.Ram Object) e = ap (λ (c : WriteClass). work_byte (stored_in c at byte s) x) e
    by writes.Rom e = ap (λ (c : WriteClass). work_byte (stored_in c at byte s) x) e
    by (writes.Latch n) e = ap (λ (c : WriteClass). work_byte (stored_in c at byte s) x) e
    by writes.NmiEnable e = ap (λ (c : WriteClass). work_byte (stored_in c at byte s) x) e
    by writes.Pitch e = ap (λ (c : WriteClass). work_byte (stored_in c at byte s) x) e
    by writes.Unmapped e = ap (λ (c : WriteClass). work_byte (stored_in c at byte s) x) e

-- so do data writes
pub all_missed : (map : MapView) (region : Region) (ws : List Write) (s : BoardView) → Misses map region ws → (x : ℕ) → region.low ≤ x → x < region.top
    → work_byte (stored_all map ws s) x ≡ work_byte s x
unfolding stored_all
all_missed map region [] s misses x low high = refl
all_missed map region (w ∷ ws) s misses x low high =
    all_missed map region ws (stored map w.at w.byte s) (All-tail (λ (v : Write). FoldsInto map region v.at → ⊥) w ws misses) x low high
    ∙ byte_missed map region w.at w.byte x s (All-head (λ (v : Write). FoldsInto map region v.at → ⊥) w ws misses) low high

-- data writes that miss the region miss the part in use
pub used_missed : (map : MapView) (region : Region) (ws : List Write) (s : BoardView) → region.low ≤ s.regs.sp → Misses map region ws → Misses map (used region s) ws
used_missed map region ws s low misses i d h f = misses i d h (f.0, omega (arith, f.1), f.2, f.3)

-- without words nothing is in use
pub unused_missed : (map : MapView) (region : Region) (ws : List Write) (s : BoardView) → HasWords map region s [] → Misses map (used region s) ws
unfolding Lays
unused_missed map region ws s h i d lt f =
    let empty : s.regs.sp ≡ region.top = h.laid in
    let from : s.regs.sp ≤ f.0 = f.1 in
    let to : f.0 < region.top = f.2 in
    absurd (omega arith)

-- ---- all else

-- what no stored byte changes
pub record Same (s new : BoardView) : Type 0 where
  pub work : length new.work ≡ length s.work
  pub phase : new.phase ≡ s.phase
  pub line : new.line ≡ s.line
  pub latched : new.latched ≡ s.latched

same : (s : BoardView) → Same s s
same s = record { work = refl; phase = refl; line = refl; latched = refl }

pub same_further : (s mid new : BoardView) → Same s mid → Same mid new → Same s new
same_further s mid new a b =
    record { work = b.work ∙ a.work; phase = b.phase ∙ a.phase; line = b.line ∙ a.line; latched = b.latched ∙ a.latched }

stored_in_same : (c : WriteClass) (at byte : ℕ) (s : BoardView) → Same s (stored_in c at byte s)
stored_in_same (writes.Ram Work) at byte s = record { work = length-set s.work (at % 0x400) byte; phase = refl; line = refl; latched = refl }
stored_in_same (writes.Ram Video) at byte s = record { work = refl; phase = refl; line = refl; latched = refl }
stored_in_same (writes.Ram Object) at byte s = record { work = refl; phase = refl; line = refl; latched = refl }
stored_in_same _ at byte s = record { work = refl; phase = refl; line = refl; latched = refl }

pub stored_same : (map : MapView) (at byte : ℕ) (s : BoardView) → Same s (stored map at byte s)
unfolding stored
stored_same map at byte s = stored_in_same (class_of map at).write at byte s

stored_all_same : (map : MapView) (ws : List Write) (s : BoardView) → Same s (stored_all map ws s)
unfolding stored_all
stored_all_same map [] s = same s
stored_all_same map (w ∷ ws) s = same_further s (stored map w.at w.byte s) _ (stored_same map w.at w.byte s) (stored_all_same map ws (stored map w.at w.byte s))

stacked_one_same : (map : MapView) (at : ℕ) (byte : Option ℕ) (s : BoardView) → Same s (stacked_one map at byte s)
stacked_one_same map at (Some byte) s = stored_same map at byte s
stacked_one_same map at None s = same s

stacked_all_same : (map : MapView) (accesses : List StackAccess) (s : BoardView) → Same s (stacked_all map accesses s)
unfolding stacked_all
stacked_all_same map [] s = same s
stacked_all_same map (a ∷ more) s =
    same_further s (stacked_one map a.at a.written s) _ (stacked_one_same map a.at a.written s) (stacked_all_same map more (stacked_one map a.at a.written s))

-- the data writes and the stack accesses of an event
pub both_same : (map : MapView) (ws : List Write) (accesses : List StackAccess) (s : BoardView) → Same s (stacked_all map accesses (stored_all map ws s))
both_same map ws accesses s = same_further s (stored_all map ws s) _ (stored_all_same map ws s) (stacked_all_same map accesses (stored_all map ws s))
