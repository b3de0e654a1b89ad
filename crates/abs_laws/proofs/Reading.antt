-- What data reads find on a board lies in the known ranges.
use Rattle.std.proofs.Common.{◌≡◌, ◌≤◌, ◌<◌, ◌+◌, ◌-◌, ◌%◌, ℕ, zero, suc, Bool, true, false, cond, ltb, refl, sym, ◌∙◌, ap, subst, arith, rules, List, [], ◌∷◌, length, take, drop, get_or, Option, Some, None, inl, inr}
use Rattle.std.proofs.Math.ListN.{length-take}
use Rattle.std.proofs.lemmas.Bool.{cases_Bool, eqb-true}
use Rattle.std.proofs.lemmas.List.{get_or-take, get_or-drop, length-drop}
use Rattle.address_map.proofs.Laws.{is_rom, ram_both}
use Rattle.address_map.specs.AddressMap.{MapView}
use Rattle.address_map.specs.Class.{class_of, cell_index}
use Rattle.address_map.specs.Cell.{cell_of, cell_of_class}
use Rattle.address_map.specs.MapLaw.{IsMap}
use Rattle.address_map.specs.declared.cell.RamKind.TheVariants.{Work, Video, Object}
use Rattle.address_map.specs.declared.map.Class.{Class}
use Rattle.address_map.specs.declared.map.ReadClass.{ReadClass}
use Rattle.address_map.specs.declared.map.ReadClass.TheVariants as reads
use Rattle.address_map.specs.declared.map.WriteClass.{WriteClass}
use Rattle.address_map.specs.declared.map.WriteClass.TheVariants as writes
use Rattle.board_step.proofs.RangeLemmas.{IsContext, read_fits}
use Rattle.board_step.specs.Context.{ContextView}
use Rattle.board_step.specs.Env.{IsEnv}
use Rattle.board_step.specs.Reads.{byte_of_class, byte_read, outside_of}
use Rattle.board_step.specs.State.{AreBytes, IsState, BoardView}
use Rattle.z80_draft.proofs.RangeLemmas.{word_read_fits}
use Rattle.z80_draft.specs.Draft.{word_read}
use Rattle.z80_draft.specs.Outside.{Outside}
use Rattle.intervals.specs.Logic.{is_single}
use Rattle.intervals.specs.Range.{RangeView, Within, full}
use Rattle.abs_state.specs.Cell.{HoldsCells}
use Rattle.abs_state.specs.declared.cell.KeptCell.{KeptCell}
use Rattle.abs_draft.specs.Ground.{GroundView, bytes_at, cell_at, is_work_cell, read_one, read_range, rom_range, span, least_of, greatest_of}
use Rattle.abs_laws.specs.Cells.{bytes_of_cells}
use Rattle.abs_laws.specs.Fits.{ReadsFit}

-- ---- the range from the least to the greatest of some bytes contains each of them

least_keeps : (least : ℕ) (bs : List ℕ) → least_of least bs ≤ least
unfolding least_of
least_keeps least [] = omega arith
least_keeps least (b ∷ bs) = let h = least_keeps least bs in omega (arith, h)

least_holds : (least : ℕ) (bs : List ℕ) (i : ℕ) → i < length bs → least_of least bs ≤ get_or bs i 0
unfolding least_of
least_holds least [] i h = absurd (omega arith)
least_holds least (b ∷ bs) zero h = omega arith
least_holds least (b ∷ bs) (suc i) h = let k = least_holds least bs i (omega arith) in omega (arith, k)

greatest_keeps : (greatest : ℕ) (bs : List ℕ) → greatest ≤ greatest_of greatest bs
unfolding greatest_of
greatest_keeps greatest [] = omega arith
greatest_keeps greatest (b ∷ bs) = let h = greatest_keeps greatest bs in omega (arith, h)

greatest_holds : (greatest : ℕ) (bs : List ℕ) (i : ℕ) → i < length bs → get_or bs i 0 ≤ greatest_of greatest bs
unfolding greatest_of
greatest_holds greatest [] i h = absurd (omega arith)
greatest_holds greatest (b ∷ bs) zero h = omega arith
greatest_holds greatest (b ∷ bs) (suc i) h = let k = greatest_holds greatest bs i (omega arith) in omega (arith, k)

span_holds : (bs : List ℕ) (i : ℕ) → i < length bs → Within (span bs) (get_or bs i 0)
span_holds [] i h = absurd (omega arith)
span_holds (b ∷ bs) zero h = (least_keeps b bs, greatest_keeps b bs)
span_holds (b ∷ bs) (suc i) h = (least_holds b bs i (omega arith), greatest_holds b bs i (omega arith))

-- ---- armed cells

-- the cell to which an address folds holds its byte
found_cell : (map : MapView) (at armed : ℕ) (cells : List KeptCell) (s : BoardView) (cell : KeptCell) → HoldsCells armed cells (bytes_of_cells cells s) → cell_at map at (take armed cells) ≡ Some cell
    → (is_work_cell (cell_of map at) cell.at ≡ true) × Within cell.range (get_or s.work (cell_index Work cell.at) 0)
found_cell map at zero cells s cell h e = absurd (cc)
found_cell map at (suc n) [] s cell h e = absurd (cc)
found_cell map at (suc n) (x ∷ xs) s cell h e = elim (cases_Bool (is_work_cell (cell_of map at) x.at)) [
  | inl t ↦
      let e' : Some x ≡ Some cell = rw t at e in
      let same : x ≡ cell = cc in
      subst (λ (c : KeptCell). (is_work_cell (cell_of map at) c.at ≡ true) × Within c.range (get_or s.work (cell_index Work c.at) 0)) same (t, h.0)
  | inr f ↦ found_cell map at n xs s cell h.1 (rw f at e)
]

pub is_work : (class : WriteClass) (at n : ℕ) → is_work_cell (cell_of_class class at) n ≡ true → (class ≡ writes.Ram Work) × (at % 0x400 ≡ n % 0x400)
is_work (writes.Ram Work) at n e = (refl, eqb-true _ _ e)
is_work (writes.Ram Video) at n e = absurd (cc)
is_work (writes.Ram Object) at n e = absurd (cc)
is_work _ at n e = absurd (cc)

-- ---- reads

module _ (c : ContextView) (is_map : IsMap c.hardware.map) (long : c.hardware.map.rom_len ≡ length c.hardware.rom) (k : IsContext c) where
  class_read : (class : ReadClass) (is_later : Bool) (at : ℕ) → (class_of c.hardware.map at).read ≡ class → byte_read c is_later at ≡ byte_of_class class c is_later at
  unfolding byte_read
  class_read class is_later at e = ap (λ (r : ReadClass). byte_of_class r c is_later at) e

  rom_class : (is_later : Bool) (at : ℕ) → at < length c.hardware.rom → byte_read c is_later at ≡ get_or c.hardware.rom at 0
  rom_class is_later at h = class_read reads.Rom is_later at (ap (λ (class : Class). class.read) (is_rom c.hardware.map is_map at (omega arith)))

  rom_read : (range : RangeView) (is_later : Bool) (at : ℕ) → Within range at → Within (rom_range c.hardware.rom range) (byte_read c is_later at)
  rom_read range is_later at w =
      let split : (t : Bool) → ltb range.high (length c.hardware.rom) ≡ t → Within (cond t (span (bytes_at c.hardware.rom range)) (full 256)) (byte_read c is_later at) =
      elim [
        | true ↦ λ e.
            let below : range.high < length c.hardware.rom = search rules in
            let size = length-take (range.high + 1 - range.low) (drop range.low c.hardware.rom) in
            let rest = length-drop range.low c.hardware.rom in
            let inside : Within (span (bytes_at c.hardware.rom range)) (get_or (bytes_at c.hardware.rom range) (at - range.low) 0) = span_holds (bytes_at c.hardware.rom range) (at - range.low) (omega arith) in
            let first = get_or-take (range.high + 1 - range.low) (drop range.low c.hardware.rom) (at - range.low) 0 (omega arith) in
            let second = get_or-drop range.low c.hardware.rom (at - range.low) 0 in
            let back : range.low + (at - range.low) ≡ at = omega arith in
            subst (λ (n : ℕ). Within (span (bytes_at c.hardware.rom range)) n) (first ∙ second ∙ ap (λ (n : ℕ). get_or c.hardware.rom n 0) back ∙ sym (rom_class is_later at (omega arith))) inside
        | false ↦ λ e. let small = read_fits c is_later at k in omega arith
      ] in
      split (ltb range.high (length c.hardware.rom)) refl

  work_read : (is_later : Bool) (at n : ℕ) → is_work_cell (cell_of c.hardware.map at) n ≡ true → byte_read c is_later at ≡ get_or c.state.work (cell_index Work n) 0
  work_read is_later at n e =
      let told = is_work (class_of c.hardware.map at).write at n e in
      class_read (reads.Ram Work) is_later at ((ram_both c.hardware.map is_map at Work).1 told.0) ∙ ap (λ (i : ℕ). get_or c.state.work i 0) told.1

  read_of_one : (g : GroundView) (armed : ℕ) (range : RangeView) (is_later : Bool) (at : ℕ) → g.rom ≡ c.hardware.rom → Within range at → (o : Option KeptCell) → cell_at c.hardware.map at (take armed g.cells) ≡ o
      → HoldsCells armed g.cells (bytes_of_cells g.cells c.state) → Within (read_one g armed range o) (byte_read c is_later at)
  read_of_one g armed range is_later at rom w None e h = rw rom (rom_read range is_later at w)
  read_of_one g armed range is_later at rom w (Some cell) e h =
      let found = found_cell c.hardware.map at armed g.cells c.state cell h e in
      rw (work_read is_later at cell.at found.0) found.1

  read_within : (g : GroundView) (armed : ℕ) → g.rom ≡ c.hardware.rom → g.map ≡ c.hardware.map → HoldsCells armed g.cells (bytes_of_cells g.cells c.state)
      → (range : RangeView) (is_later : Bool) (at : ℕ) → Within range at → Within (read_range g armed range) (byte_read c is_later at)
  read_within g armed rom map h range is_later at w =
      let split : (t : Bool) → is_single range ≡ t → Within (cond t (read_one g armed range (cell_at g.map range.low (take armed g.cells))) (rom_range g.rom range)) (byte_read c is_later at) =
      elim [
        | true ↦ λ e.
            let one : range.low ≡ range.high = eqb-true _ _ e in
            let same : range.low ≡ at = omega arith in
            subst (λ (n : ℕ). Within (read_one g armed range (cell_at g.map n (take armed g.cells))) (byte_read c is_later at)) (sym same)
            (read_of_one g armed range is_later at rom w (cell_at g.map at (take armed g.cells)) (ap (λ (m : MapView). cell_at m at (take armed g.cells)) (sym map)) h)
        | false ↦ λ e. rw rom (rom_read range is_later at w)
      ] in
      split (is_single range) refl

pub outside_fits : (g : GroundView) (c : ContextView) (armed : ℕ) → g.rom ≡ c.hardware.rom → g.map ≡ c.hardware.map → IsMap c.hardware.map → c.hardware.map.rom_len ≡ length c.hardware.rom
    → AreBytes c.hardware.rom → IsState c.state → IsEnv c.env → HoldsCells armed g.cells (bytes_of_cells g.cells c.state) → ReadsFit g (outside_of c) armed
outside_fits g c armed rom map is_map long bytes state env h =
    let k : IsContext c = record { rom = bytes; state = state; env = env } in
    record {
      bytes = λ is_later at. read_fits c is_later at k;
      noise = env.noise;
      r = env.r;
      found = λ range is_later at small w. read_within c is_map long k g armed rom map h range is_later at w;
    }

-- the words that are read are words
pub word_is_read : (g : GroundView) (o : Outside) (armed : ℕ) (is_later : Bool) (at : ℕ) → ReadsFit g o armed → word_read o is_later at < 65536
word_is_read g o armed is_later at reads = word_read_fits o is_later at (record { read = reads.bytes; noise = reads.noise; r = reads.r })
