-- Apart from its form, only a row's place decides whether it may come next.
use Rattle.std.proofs.Common.{◌≡◌, ◌<◌, ◌≤◌, ℕ, ◌∷◌, [], ◌++◌, List, length, subst}
use Rattle.cert_lines.specs.Row.{IsRow, place_of}
use Rattle.cert_lines.specs.declared.line.Line.TheVariants as lines
use Rattle.cert_lines.specs.declared.row.RowPlace.{RowPlace}
use Rattle.cert_lines.specs.declared.row.Row.{Row}
use Rattle.cert_lines.specs.declared.version.Version.{Version}
use Rattle.cert_form.specs.Form.{AreRows, Follow, IsRowOf, MayArm, place_number}
use Rattle.cert_form.specs.Reader.{ReaderView, MayFollow}
use Rattle.cert_form.proofs.Lists.{all_at, all_front, all_push}

-- another last element with the same relation to each one before it
follow_last : {X : Type 0} (R : X → X → Type 0) (xs : List X) (x y : X) → ((z : X) → R z x → R z y) →
    Follow R (xs ++ x ∷ []) → Follow R (xs ++ y ∷ [])
follow_last R [] x y other follow = tt
follow_last R (z ∷ []) x y other follow = (other z follow.0, tt)
follow_last R (z ∷ w ∷ xs) x y other follow = (follow.0, follow_last R (w ∷ xs) x y other follow.1)

row_by_place : (v : Version) (procs cells : ℕ) (row other : Row) → IsRow v other → place_of row ≡ place_of other →
    IsRowOf v procs cells row → IsRowOf v procs cells other
row_by_place v procs cells row other form same is = record {
  form = form;
  proc = subst (λ (place : RowPlace). place.proc < procs) same is.proc;
  armed = subst (λ (place : RowPlace). MayArm cells place.mode place.armed) same is.armed;
}

rows_by_place : (v : Version) (procs cells : ℕ) (rows : List Row) (row other : Row) → IsRow v other →
    place_of row ≡ place_of other → AreRows v procs cells (rows ++ row ∷ []) →
    AreRows v procs cells (rows ++ other ∷ [])
rows_by_place v procs cells rows row other form same are = record {
  each = all_push (IsRowOf v procs cells) rows other (all_front (IsRowOf v procs cells) rows (row ∷ []) are.each)
      (row_by_place v procs cells row other form same (all_at (IsRowOf v procs cells) rows row [] are.each));
  rising = follow_last _ rows row other
      (λ before. subst
      (λ (place : RowPlace). place_number before.proc before.address ≤ place_number place.proc place.address) same) are.rising;
}

-- a row in form may come next if another one with its place may
pub may_follow_by_place : (p : ReaderView) (row other : Row) → IsRow p.contents.version other →
    place_of row ≡ place_of other → MayFollow p (lines.Row row) → MayFollow p (lines.Row other)
may_follow_by_place p row other form same may = (
  may.0,
  rows_by_place p.contents.version (length p.contents.procs)
      (length p.contents.cells) p.contents.rows row other form same may.1,
)
