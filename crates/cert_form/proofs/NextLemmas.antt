-- Which split, inline call or cell may come after others.
use Rattle.std.proofs.Common.{◌≡◌, ◌<◌, ◌-◌, ◌↔◌, ℕ, List, [], ◌∷◌, ◌++◌, length, slice_get, Some}
use Rattle.abs_state.specs.declared.cell.KeptCell.{KeptCell}
use Rattle.cert_lines.specs.declared.split.Split.{Split}
use Rattle.cert_lines.specs.declared.version.BoardMap.{BoardMap}
use Rattle.cert_form.specs.Form.{AreCells, AreInlines, AreSplits, IsCell, IsSplit, place_number}
use Rattle.cert_form.proofs.Lists.{all_push}
use Rattle.cert_form.proofs.LastLemmas.{stands_behind}
use Rattle.texts.specs.Numbers.{IsWord}

abbrev split_place_number : Split → ℕ
split_place_number split = place_number split.proc split.address

-- a split of one of the procedures, if its place is above the last one's
pub split_stands : (procs : ℕ) (splits : List Split) (last split : Split) → AreSplits procs splits → IsSplit procs split →
    slice_get splits (length splits - 1) ≡ Some last →
    (place_number last.proc last.address < place_number split.proc split.address) ↔ AreSplits procs (splits ++ split ∷ [])
split_stands procs splits last split are is at =
    let stands = stands_behind (λ a b. split_place_number a < split_place_number b) splits last split are.rising at in (
      λ above. record { each = all_push (IsSplit procs) splits split are.each is; rising = stands.0 above },
      λ longer. stands.1 longer.rising,
    )

-- the address of an inline call, if it is above the last one
pub inline_stands : (inlines : List ℕ) (last address : ℕ) → AreInlines inlines → IsWord address →
    slice_get inlines (length inlines - 1) ≡ Some last → (last < address) ↔ AreInlines (inlines ++ address ∷ [])
inline_stands inlines last address are word at =
    let stands = stands_behind (λ a b. a < b) inlines last address are.rising at in (
      λ above. record { each = all_push IsWord inlines address are.each word; rising = stands.0 above },
      λ longer. stands.1 longer.rising,
    )

-- a cell of work RAM, if its address is above the last one's
pub cell_stands : (board : BoardMap) (cells : List KeptCell) (last cell : KeptCell) → AreCells board cells →
    IsCell board cell → slice_get cells (length cells - 1) ≡ Some last →
    (last.at < cell.at) ↔ AreCells board (cells ++ cell ∷ [])
cell_stands board cells last cell are is at =
    let stands = stands_behind (λ a b. a.at < b.at) cells last cell are.rising at in (
      λ above. record { each = all_push (IsCell board) cells cell are.each is; rising = stands.0 above },
      λ longer. stands.1 longer.rising,
    )
