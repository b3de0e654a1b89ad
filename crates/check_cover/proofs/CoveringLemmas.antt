-- Some row at an address covers a state exactly where the row of one of its numbers does.
use Rattle.std.proofs.Common.{◌≡◌, ◌<◌, ◌≤◌, ◌↔◌, ℕ, Option, Some, None, MatchOption, slice_get, refl, sym}
use Rattle.std.proofs.lemmas.Option.{get_or_from_slice_get, slice_get_read, slice_get_within}
use Rattle.abs_state.specs.declared.state.AbsState.{AbsState}
use Rattle.check_cover.specs.Arrival.{ArrivalView}
use Rattle.check_cover.specs.Covering.{RowCovers, SomeCovers}
use Rattle.cert_lines.specs.declared.row.Row.{Row}
use Rattle.cert_form.specs.Contents.{CertificateView}

-- exactly the rows at an address have these numbers
abbrev pub AreRowsAt : CertificateView → ArrivalView → ℕ → ℕ → Type 0
AreRowsAt cert a start end =
    (k : ℕ) (row : Row) → slice_get cert.rows k ≡ Some row → ((start ≤ k) × (k < end)) ↔ ((row.proc ≡ a.proc) × (row.address ≡ a.address))

-- the number of a row among these that covers the state, or none
abbrev pub FirstCovers : CertificateView → ArrivalView → AbsState → ℕ → ℕ → Option ℕ → Type 0
FirstCovers cert a state start end found =
    MatchOption found ((k : ℕ) → start ≤ k → k < end → RowCovers cert a state k → ⊥) (λ k. (start ≤ k) × (k < end) × RowCovers cert a state k)

pub some_covers : (cert : CertificateView) (a : ArrivalView) (state : AbsState) (start end k : ℕ) → AreRowsAt cert a start end → start ≤ k → k < end →
    RowCovers cert a state k → SomeCovers cert a state
some_covers cert a state start end k rows from below covers =
    let place = (rows k covers.row covers.at).0 (from, below) in
    record {
      row = covers.row;
      at = record {
        listed = (k, slice_get_within cert.rows k covers.row covers.at, get_or_from_slice_get cert.rows k covers.row covers.row covers.at);
        of = place.0;
        at = place.1;
      };
      covers = covers.covers;
    }

pub row_covers : (cert : CertificateView) (a : ArrivalView) (state : AbsState) (start end : ℕ) → AreRowsAt cert a start end →
    ((k : ℕ) → start ≤ k → k < end → RowCovers cert a state k → ⊥) → SomeCovers cert a state → ⊥
row_covers cert a state start end rows none some =
    let (k, within, is) = some.at.listed in
    let at = slice_get_read cert.rows _ k some.row refl within (sym is) in
    let number = (rows k some.row at).1 (some.at.of, some.at.at) in
    none k number.0 number.1 record { row = some.row; at = at; covers = some.covers }

pub found_covers : (cert : CertificateView) (a : ArrivalView) (state : AbsState) (start end : ℕ) (found : Option ℕ) → AreRowsAt cert a start end →
    FirstCovers cert a state start end found → MatchOption found (SomeCovers cert a state → ⊥) (λ _. SomeCovers cert a state)
found_covers cert a state start end None rows none = row_covers cert a state start end rows none
found_covers cert a state start end (Some k) rows first = some_covers cert a state start end k rows first.0 first.1 first.2
