-- The kept cells after the data writes and the stack accesses of a draft.
use Rattle.std.proofs.Common.{◌≡◌, ◌≢◌, ◌<◌, ◌≤◌, ◌+◌, ◌%◌, ◌||◌, ℕ, zero, suc, true, false, cond, nat_le, nat_lt, refl, sym, ◌∙◌, ap, ap₂, subst, arith, inl, inr, List, [], ◌∷◌, length, take, slice_get, get_or, set, ◌⊎◌, ◌&&◌, Option, Some, None}
use Rattle.std.specs.List.{All, AllZip}
use Rattle.std.proofs.lemmas.Bool.{and_parts, cases_eq, cond_both, eqb-true, leb-false, leb-true, ltb-false, or_parts}
use Rattle.std.proofs.lemmas.List.{get_or-set_same, get_or-set_other}
use Rattle.std.proofs.lemmas.List.Elements.{All-head, All-tail}
use Rattle.address_map.proofs.Laws.{region_apart}
use Rattle.address_map.specs.AddressMap.{MapView}
use Rattle.address_map.specs.Class.{class_of}
use Rattle.address_map.specs.Cell.{cell_of, cell_of_class}
use Rattle.address_map.specs.Ranges.{SomeAtCell}
use Rattle.address_map.specs.WorkRam.{work_start}
use Rattle.address_map.specs.declared.cell.RamKind.TheVariants.{Work, Video, Object}
use Rattle.address_map.specs.declared.map.WriteClass.{WriteClass}
use Rattle.address_map.specs.declared.map.WriteClass.TheVariants as writes
use Rattle.address_map.specs.declared.region.Region.{Region}
use Rattle.intervals.specs.Logic.{is_single}
use Rattle.intervals.specs.Range.{Covers, Within}
use Rattle.z80_draft.specs.Draft.{DraftView}
use Rattle.z80_draft.specs.declared.access.StackAccess.{StackAccess}
use Rattle.z80_draft.specs.declared.access.Write.{Write}
use Rattle.board_step.specs.Memory.{stacked_all, stacked_one, stored, stored_all, stored_in}
use Rattle.board_step.specs.State.{BoardView}
use Rattle.board_step.specs.Step.{committed}
use Rattle.board_step.specs.Trap.{some_outside}
use Rattle.board_laws.proofs.Brought.{byte_committed}
use Rattle.board_laws.proofs.Bytes.{stored_same}
use Rattle.board_laws.specs.Region.{IsStackRegion}
use Rattle.board_laws.specs.Words.{work_byte}
use Rattle.abs_state.specs.Cell.{HoldsCells}
use Rattle.abs_state.specs.declared.cell.KeptCell.{KeptCell}
use Rattle.abs_state.specs.declared.state.AbsState.{AbsState}
use Rattle.abs_draft.specs.Ground.{GroundView, armed_after, arms, has_range, is_work_cell}
use Rattle.abs_draft.specs.AbsDraft.{written_state}
use Rattle.abs_draft.specs.declared.data_write.DataWrite.{DataWrite}
use Rattle.abs_laws.specs.Cells.{bytes_of_cells}
use Rattle.abs_laws.specs.Fits.{WriteLiesIn, state_after_writes}
use Rattle.abs_laws.specs.Writes.{AllKeep, IsPlaced, KeepsCells}
use Rattle.abs_laws.proofs.Reading.{is_work}

-- ---- a stored byte

-- a byte stored at an address of the cell is the cell's
byte_there : (map : MapView) (at byte x : ℕ) (s : BoardView) → length s.work ≡ 0x400 → (class_of map at).write ≡ writes.Ram Work → x % 0x400 ≡ at % 0x400
    → work_byte (stored map at byte s) x ≡ byte
unfolding stored
byte_there map at byte x s size class same =
    ap (λ (c : WriteClass). work_byte (stored_in c at byte s) x) class
    ∙ ap (λ (i : ℕ). get_or (set s.work (at % 0x400) byte) i 0) same
    ∙ get_or-set_same s.work (at % 0x400) byte 0 (omega arith)

-- any other keeps the cell's byte
byte_elsewhere : (map : MapView) (at byte x : ℕ) (s : BoardView) → ((class_of map at).write ≡ writes.Ram Work → x % 0x400 ≢ at % 0x400)
    → work_byte (stored map at byte s) x ≡ work_byte s x
unfolding stored
byte_elsewhere map at byte x s apart = by (class_of map at).write refl
  where
    by : (c : WriteClass) → (class_of map at).write ≡ c → work_byte (stored_in (class_of map at).write at byte s) x ≡ work_byte s x
    by (writes.Ram Work) e = ap (λ (c : WriteClass). work_byte (stored_in c at byte s) x) e ∙ get_or-set_other s.work (at % 0x400) (x % 0x400) byte 0 (apart e)
    by (writes.Ram Video) e = ap (λ (c : WriteClass). work_byte (stored_in c at byte s) x) e
    by (writes.Ram Object) e = ap (λ (c : WriteClass). work_byte (stored_in c at byte s) x) e
    by writes.Rom e = ap (λ (c : WriteClass). work_byte (stored_in c at byte s) x) e
    by (writes.Latch n) e = ap (λ (c : WriteClass). work_byte (stored_in c at byte s) x) e
    by writes.NmiEnable e = ap (λ (c : WriteClass). work_byte (stored_in c at byte s) x) e
    by writes.Pitch e = ap (λ (c : WriteClass). work_byte (stored_in c at byte s) x) e
    by writes.Unmapped e = ap (λ (c : WriteClass). work_byte (stored_in c at byte s) x) e

is_ram : (class : WriteClass) → (class ≡ writes.Ram Work) ⊎ (class ≢ writes.Ram Work)
is_ram (writes.Ram Work) = inl refl
is_ram (writes.Ram Video) = inr (λ e. (cc))
is_ram (writes.Ram Object) = inr (λ e. (cc))
is_ram _ = inr (λ e. (cc))

-- after a data write the byte of a cell is still in its range
cell_stays : (map : MapView) (w : DataWrite) (v : Write) (s : BoardView) (cell : KeptCell) → length s.work ≡ 0x400 → WriteLiesIn w v
    → (SomeAtCell map w.at cell.at → Covers cell.range w.byte) → Within cell.range (work_byte s cell.at) → Within cell.range (work_byte (stored map v.at v.byte s) cell.at)
cell_stays map w v s cell size lies keeps holds = elim (is_ram (class_of map v.at).write) [
  | inl ram ↦ elim (cases_eq (cell.at % 0x400) (v.at % 0x400)) [
    | inl same ↦
        let covers : Covers cell.range w.byte = keeps (v.at, lies.0, ap (λ (c : WriteClass). cell_of_class c v.at) ram ∙ ap (λ (n : ℕ). Some (Work, n)) (sym same)) in
        let within : Within w.byte v.byte = lies.1 in
        let there : Within cell.range v.byte = omega arith in
        subst (Within cell.range) (sym (byte_there map v.at v.byte cell.at s size ram same)) there
    | inr apart ↦ subst (Within cell.range) (sym (byte_elsewhere map v.at v.byte cell.at s (λ e. apart))) holds
  ]
  | inr other ↦ subst (Within cell.range) (sym (byte_elsewhere map v.at v.byte cell.at s (λ e. absurd (other e)))) holds
]

-- ---- the armed cells

armed_stay : (cells : List KeptCell) (armed : ℕ) (s t : BoardView) → All (λ (cell : KeptCell). Within cell.range (work_byte s cell.at) → Within cell.range (work_byte t cell.at)) (take armed cells)
    → HoldsCells armed cells (bytes_of_cells cells s) → HoldsCells armed cells (bytes_of_cells cells t)
armed_stay cells zero s t stays h = tt
armed_stay [] (suc n) s t stays h = tt
armed_stay (x ∷ xs) (suc n) s t stays h =
    let P : KeptCell → Type 0 = λ (cell : KeptCell). Within cell.range (work_byte s cell.at) → Within cell.range (work_byte t cell.at) in
    (All-head P x (take n xs) stays h.0, armed_stay xs n s t (All-tail P x (take n xs) stays) h.1)

one_more : (cells : List KeptCell) (armed : ℕ) (s : BoardView) (cell : KeptCell) → slice_get cells armed ≡ Some cell → Within cell.range (work_byte s cell.at)
    → HoldsCells armed cells (bytes_of_cells cells s) → HoldsCells (suc armed) cells (bytes_of_cells cells s)
one_more [] n s cell e w h = absurd (cc)
one_more (x ∷ xs) zero s cell e w h =
    let same : cell ≡ x = cc in
    (subst (λ (c : KeptCell). Within c.range (work_byte s c.at)) same w, tt)
one_more (x ∷ xs) (suc n) s cell e w h = (h.0, one_more xs n s cell e w h.1)

-- a write that arms a cell puts a byte of its range there
armed_byte : (map : MapView) (w : DataWrite) (v : Write) (s : BoardView) (cell : KeptCell) → length s.work ≡ 0x400 → WriteLiesIn w v → arms map w (Some cell) ≡ true
    → Within cell.range (work_byte (stored map v.at v.byte s) cell.at)
armed_byte map w v s cell size lies e =
    let p = and_parts (is_single w.at && is_work_cell (cell_of map w.at.low) cell.at) (has_range cell.range w.byte) e in
    let q = and_parts (is_single w.at) (is_work_cell (cell_of map w.at.low) cell.at) p.0 in
    let one : w.at.low ≡ w.at.high = eqb-true _ _ q.0 in
    let there : Within w.at v.at = lies.0 in
    let at : w.at.low ≡ v.at = omega arith in
    let told = is_work (class_of map w.at.low).write w.at.low cell.at q.1 in
    let class : (class_of map v.at).write ≡ writes.Ram Work = subst (λ (n : ℕ). (class_of map n).write ≡ writes.Ram Work) at told.0 in
    let same : cell.at % 0x400 ≡ v.at % 0x400 = sym told.1 ∙ ap (λ (n : ℕ). n % 0x400) at in
    let r = and_parts (nat_le cell.range.low w.byte.low) (nat_le w.byte.high cell.range.high) p.1 in
    let low : cell.range.low ≤ w.byte.low = leb-true cell.range.low w.byte.low r.0 in
    let high : w.byte.high ≤ cell.range.high = leb-true w.byte.high cell.range.high r.1 in
    let within : Within w.byte v.byte = lies.1 in
    let inside : Within cell.range v.byte = omega arith in
    subst (Within cell.range) (sym (byte_there map v.at v.byte cell.at s size class same)) inside

-- ---- data writes

module _ (g : GroundView) where
  after_arming : (w : DataWrite) (v : Write) (s : BoardView) (armed : ℕ) → length s.work ≡ 0x400 → WriteLiesIn w v
      → HoldsCells armed g.cells (bytes_of_cells g.cells (stored g.map v.at v.byte s))
      → (o : Option KeptCell) → slice_get g.cells armed ≡ o
      → HoldsCells (cond (arms g.map w o) (armed + 1) armed) g.cells (bytes_of_cells g.cells (stored g.map v.at v.byte s))
  after_arming w v s armed size lies h None e = h
  after_arming w v s armed size lies h (Some cell) e =
      let t = stored g.map v.at v.byte s in
      cond_both (arms g.map w (Some cell)) (armed + 1) armed (λ (n : ℕ). HoldsCells n g.cells (bytes_of_cells g.cells t))
      (λ is.
      let next : suc armed ≡ armed + 1 = omega arith in
      subst (λ (n : ℕ). HoldsCells n g.cells (bytes_of_cells g.cells t)) next
      (one_more g.cells armed t cell e (armed_byte g.map w v s cell size lies is) h))
      (λ isnt. h)

  after_write : (w : DataWrite) (v : Write) (s : BoardView) (armed : ℕ) → length s.work ≡ 0x400 → WriteLiesIn w v → KeepsCells g.map (take armed g.cells) w
      → HoldsCells armed g.cells (bytes_of_cells g.cells s) → HoldsCells (armed_after g w armed) g.cells (bytes_of_cells g.cells (stored g.map v.at v.byte s))
  after_write w v s armed size lies keeps h =
      after_arming w v s armed size lies
      (armed_stay g.cells armed s (stored g.map v.at v.byte s) (λ i d lt. cell_stays g.map w v s (get_or (take armed g.cells) i d) size lies (keeps i d lt)) h)
      (slice_get g.cells armed) refl

  after_writes : (ws : List DataWrite) (vs : List Write) (a : AbsState) (s : BoardView) → length s.work ≡ 0x400 → AllZip WriteLiesIn ws vs → AllKeep g a.armed ws
      → HoldsCells a.armed g.cells (bytes_of_cells g.cells s) → HoldsCells (state_after_writes g ws a).armed g.cells (bytes_of_cells g.cells (stored_all g.map vs s))
  unfolding stored_all AllKeep
  after_writes [] [] a s size zip keep h = h
  after_writes [] (v ∷ vs) a s size zip keep h = absurd zip
  after_writes (w ∷ ws) [] a s size zip keep h = absurd zip
  after_writes (w ∷ ws) (v ∷ vs) a s size zip keep h =
      after_writes ws vs (written_state g w a) (stored g.map v.at v.byte s) ((stored_same g.map v.at v.byte s).work ∙ size) zip.1 keep.1
      (after_write w v s a.armed size zip.0 keep.0 h)

-- ---- stack accesses

-- the first 400h addresses of work RAM
abbrev first_cells : MapView → Region
first_cells map = record { low = work_start map; top = work_start map + 0x400 }

module _ (map : MapView) (region : Region) (r : IsStackRegion map region) where
  access_misses : (at : ℕ) (byte : Option ℕ) (s : BoardView) (cell : KeptCell) → region.low ≤ at → at < region.top → IsPlaced map region cell
      → work_byte (stacked_one map at byte s) cell.at ≡ work_byte s cell.at
  access_misses at None s cell from to kept = refl
  access_misses at (Some byte) s cell from to kept =
      let low : work_start map ≤ region.low = r.low in
      let top : region.top ≤ work_start map + 0x400 = r.top in
      let start : work_start map ≤ cell.at = kept.start in
      let end : cell.at < work_start map + 0x400 = kept.end in
      let other : cell.at ≢ at = λ e. kept.outside (omega arith) (omega arith) in
      byte_elsewhere map at byte cell.at s
      (λ e. region_apart map r.is_map (first_cells map) (omega arith) (omega arith) cell.at at start end (omega arith) (omega arith) other)

  accesses_miss : (accesses : List StackAccess) (s : BoardView) (cell : KeptCell) → some_outside region accesses ≡ false → IsPlaced map region cell
      → work_byte (stacked_all map accesses s) cell.at ≡ work_byte s cell.at
  unfolding stacked_all
  accesses_miss [] s cell inside kept = refl
  accesses_miss (a ∷ more) s cell inside kept =
      let p = or_parts (nat_lt a.at region.low || nat_le region.top a.at) (some_outside region more) inside in
      let q = or_parts (nat_lt a.at region.low) (nat_le region.top a.at) p.0 in
      accesses_miss more (stacked_one map a.at a.written s) cell p.1 kept
      ∙ access_misses a.at a.written s cell (ltb-false a.at region.low q.0) (leb-false region.top a.at q.1) kept

  -- after the draft the kept cells are as the data writes leave them
  kept_bytes : (draft : DraftView) (s : BoardView) (cells : List KeptCell) → some_outside region draft.stack ≡ false → All (IsPlaced map region) cells
      → bytes_of_cells cells (stored_all map draft.writes s) ≡ bytes_of_cells cells (committed map draft s)
  kept_bytes draft s [] inside kept = refl
  kept_bytes draft s (cell ∷ cells) inside kept =
      ap₂ (λ (b : ℕ) (bs : List ℕ). b ∷ bs)
      (sym (byte_committed map draft s cell.at ∙ accesses_miss draft.stack (stored_all map draft.writes s) cell inside (All-head (IsPlaced map region) cell cells kept)))
      (kept_bytes draft s cells inside (All-tail (IsPlaced map region) cell cells kept))

pub cells_hold : (g : GroundView) (region : Region) (draft : DraftView) (s : BoardView) (a : AbsState) (ws : List DataWrite) → IsStackRegion g.map region → length s.work ≡ 0x400
    → All (IsPlaced g.map region) g.cells → AllZip WriteLiesIn ws draft.writes → some_outside region draft.stack ≡ false → AllKeep g a.armed ws
    → HoldsCells a.armed g.cells (bytes_of_cells g.cells s) → HoldsCells (state_after_writes g ws a).armed g.cells (bytes_of_cells g.cells (committed g.map draft s))
cells_hold g region draft s a ws r size kept zip inside keep h =
    subst (HoldsCells (state_after_writes g ws a).armed g.cells) (kept_bytes g.map region r draft s g.cells inside kept)
    (after_writes g ws draft.writes a s size zip keep h)
