-- A row without facts and flag parts that covers a state covers each state that this one covers, at splits too.
use Rattle.std.proofs.lemmas.Option.{get_or_from_slice_get, slice_get_within}
use Rattle.check_cover.proofs.CoveringLemmas.{AreRowsAt}
use Rattle.cert_lines.specs.declared.row.Row.{Row}
use Rattle.loop_bounds.specs.Linear.{LinearView}
use Rattle.std.proofs.Common.{List, slice_get, ◌<◌, ◌≡◌, ◌≤◌, ℕ, true, [], Option, Some, None, IfSome, refl, subst}
use Rattle.abs_state.proofs.CoverLemmas.{state_covers_along}
use Rattle.abs_state.specs.Covers.{CoversState}
use Rattle.abs_state.specs.Restricting.{byte_is}
use Rattle.abs_state.specs.declared.state.AbsState.{AbsState}
use Rattle.check_cover.proofs.RestrictLemmas.{covers_part}
use Rattle.check_cover.proofs.RowLemmas.{covers_without_facts}
use Rattle.check_cover.specs.Arrival.{ArrivalView}
use Rattle.check_cover.specs.Covering.{Covered, CoveredBy, RowCovers, SomeCovers, tightened_by}
use Rattle.check_cover.specs.Plainly.{CoversPlainly}
use Rattle.check_cover.specs.Program.{split_at}
use Rattle.cert_form.specs.Contents.{CertificateView}
use Rattle.z80_decode.specs.declared.operands.Register8.{Register8}

-- it covers what arrives at its address
some_plain : (cert : CertificateView) (a : ArrivalView) (wide state : AbsState) → CoversPlainly cert a.proc a.address wide → CoversState wide state → SomeCovers cert a state
some_plain cert a wide state plain over = record {
  row = plain.row;
  at = plain.at;
  covers = (covers_without_facts a state plain.row true plain.facts plain.parts
      ((λ yes. state_covers_along plain.row.state wide state plain.covers over), (λ covers. refl))).0 refl;
}

-- and each part of it
part_plain : (cert : CertificateView) (a : ArrivalView) (wide state : AbsState) (part : Option AbsState) → ((p : AbsState) → part ≡ Some p → CoversState state p) →
    CoversPlainly cert a.proc a.address wide → CoversState wide state → IfSome part (SomeCovers cert a)
part_plain cert a wide state None within plain over = tt
part_plain cert a wide state (Some p) within plain over = some_plain cert a wide p plain (state_covers_along wide state p over (within p refl))

pub by_plain : (cert : CertificateView) (a : ArrivalView) (wide state : AbsState) (split : Option Register8) → CoversPlainly cert a.proc a.address wide →
    CoversState wide state → CoveredBy cert a state split
by_plain cert a wide state None plain over = some_plain cert a wide state plain over
by_plain cert a wide state (Some register) plain over =
    λ value fits.
    part_plain cert a wide state (byte_is true register value state) (λ p is. covers_part state register value p is) plain over

pub covered_plain : (cert : CertificateView) (a : ArrivalView) (wide state : AbsState) → CoversPlainly cert a.proc a.address wide → CoversState wide state →
    Covered cert a state
covered_plain cert a wide state plain over = by_plain cert a wide state (split_at cert a.proc a.address) plain over

-- one of the rows at an address, given by its number, has no facts and flag parts, and covers a state
pub plainly : (cert : CertificateView) (a : ArrivalView) (state : AbsState) (start end k : ℕ) → AreRowsAt cert a start end → start ≤ k → k < end →
    RowCovers cert a state k → IfSome (slice_get cert.rows k) (λ row. (row.facts ≡ []) × (row.parts ≡ [])) → CoversPlainly cert a.proc a.address state
unfolding tightened_by
plainly cert a state start end k rows from below covers free =
    let place = (rows k covers.row covers.at).0 (from, below) in
    let bare : (covers.row.facts ≡ []) × (covers.row.parts ≡ []) = subst (λ (o : Option Row). IfSome o (λ row. (row.facts ≡ []) × (row.parts ≡ []))) covers.at free in
    let none : covers.row.facts ≡ [] = bare.0 in
    record {
      row = covers.row;
      at = record {
        listed = (k, slice_get_within cert.rows k covers.row covers.at, get_or_from_slice_get cert.rows k covers.row covers.row covers.at);
        of = place.0;
        at = place.1;
      };
      facts = none;
      parts = bare.1;
      covers = subst (λ (facts : List LinearView). IfSome (tightened_by facts state) (CoversState covers.row.state)) none covers.covers.tightened;
    }
