-- A row that covers a state, with claims that are known whatever the state, covers each state that this one covers.
use Rattle.std.proofs.Common.{◌≡◌, ◌≤◌, ◌<◌, ◌∙◌, ℕ, true, List, [], ◌∷◌, length, slice_get, Option, Some, None, IfSome, refl, sym, subst, arith}
use Rattle.std.proofs.lemmas.Option.{get_or_from_slice_get, slice_get_within}
use Rattle.std.specs.Prelude.{option_and_then}
use Rattle.std.specs.List.{All, AllZip}
use Rattle.abs_state.proofs.CoverLemmas.{state_covers_along, state_covers_itself}
use Rattle.abs_state.specs.Covers.{CoversState, KeepsSlot, KeepsState}
use Rattle.abs_state.specs.Pairs.{CoversPairs, KeepsPair, KeepsPairs}
use Rattle.abs_state.specs.Restricting.{byte_is}
use Rattle.abs_state.specs.Variables.{cut_to, range_of}
use Rattle.abs_state.specs.declared.pairs.Pairs.{Pairs}
use Rattle.abs_state.specs.declared.state.AbsState.{AbsState}
use Rattle.cert_form.specs.Contents.{CertificateView}
use Rattle.cert_lines.specs.declared.row.Row.{Row}
use Rattle.check_cover.proofs.CoveringLemmas.{AreRowsAt}
use Rattle.check_cover.proofs.CutsStill.{Still, still_then}
use Rattle.check_cover.proofs.RestrictLemmas.{covers_part}
use Rattle.check_cover.proofs.StateStill.{same_length, state_still}
use Rattle.check_cover.specs.Arrival.{ArrivalView}
use Rattle.check_cover.specs.Covering.{Covered, CoveredBy, CoversArrival, CoversTightened, RowCovers, SomeCovers, Suits, tightened_by}
use Rattle.check_cover.specs.Program.{split_at}
use Rattle.check_cover.specs.Whole.{CoversWhole, KnowsClaims}
use Rattle.intervals.specs.declared.reg_pair.RegPair.{RegPair}
use Rattle.loop_bounds.specs.Linear.{LinearView}
use Rattle.loop_bounds.specs.Tighten.{tightened}
use Rattle.stack_shape.specs.Shape.{CoversShape}
use Rattle.stack_shape.specs.declared.slot.Slot.{Slot}
use Rattle.intervals.specs.Pair.{CoversPair}
use Rattle.intervals.specs.declared.pair.Pair.{Pair}
use Rattle.z80_decode.specs.declared.operands.Register8.{Register8}

-- ---- facts

tightened_still : (facts : List LinearView) (s t : AbsState) → CoversState s t → Still CoversState (tightened_by facts s) (tightened_by facts t)
unfolding tightened_by
tightened_still [] s t h = h
tightened_still (fact ∷ facts) s t h =
    still_then CoversState CoversState _ _ _ _ (state_still fact s t h) (λ x y k. tightened_still facts x y k)

left_still : (mine : AbsState) (a b : Option AbsState) → Still CoversState a b → IfSome a (CoversState mine) → IfSome b (CoversState mine)
left_still mine a None h k = tt
left_still mine None (Some t) h k = absurd h
left_still mine (Some s) (Some t) h k = state_covers_along mine s t k h

-- ---- origins

keeps_on : (mine : Option RegPair) (p q : Pair) → IfSome mine (λ of. p.origin ≡ Some of) → CoversPair p q → IfSome mine (λ of. q.origin ≡ Some of)
keeps_on None p q h k = tt
keeps_on (Some of) p q h k = subst (λ (o : Option RegPair). IfSome o (λ r. q.origin ≡ Some r)) h k.origin

keeps_pairs : (mine p q : Pairs) → KeepsPairs mine p → CoversPairs p q → KeepsPairs mine q
keeps_pairs mine p q h k = record {
  af = keeps_on mine.af.origin p.af q.af h.af k.0.af;
  bc = keeps_on mine.bc.origin p.bc q.bc h.bc k.0.bc;
  de = keeps_on mine.de.origin p.de q.de h.de k.0.de;
  hl = keeps_on mine.hl.origin p.hl q.hl h.hl k.0.hl;
  ix = keeps_on mine.ix.origin p.ix q.ix h.ix k.0.ix;
  iy = keeps_on mine.iy.origin p.iy q.iy h.iy k.0.iy;
  alternate_af = keeps_on mine.alternate_af.origin p.alternate_af q.alternate_af h.alternate_af k.1.alternate_af;
  alternate_bc = keeps_on mine.alternate_bc.origin p.alternate_bc q.alternate_bc h.alternate_bc k.1.alternate_bc;
  alternate_de = keeps_on mine.alternate_de.origin p.alternate_de q.alternate_de h.alternate_de k.1.alternate_de;
  alternate_hl = keeps_on mine.alternate_hl.origin p.alternate_hl q.alternate_hl h.alternate_hl k.1.alternate_hl;
}

keeps_slots : (mine ss ts : List Slot) → AllZip KeepsSlot mine ss → CoversShape ss ts → AllZip KeepsSlot mine ts
keeps_slots [] [] [] h k = tt
keeps_slots [] [] (t ∷ ts) h k = absurd k
keeps_slots [] (s ∷ ss) ts h k = absurd h
keeps_slots (m ∷ ms) [] ts h k = absurd h
keeps_slots (m ∷ ms) (s ∷ ss) [] h k = absurd k
keeps_slots (m ∷ ms) (s ∷ ss) (t ∷ ts) h k = (keeps_on m.pair.origin s.pair t.pair h.0 k.0, keeps_slots ms ss ts h.1 k.1)

-- ---- rows

-- what a row says of mode, cells and flag fact, with the pairs and the shape of a state
beside : AbsState → AbsState → AbsState
beside mine s = record { mode = mine.mode; armed = mine.armed; pairs = s.pairs; flag = mine.flag; shape = s.shape }

beside_covers : (mine s : AbsState) (row : Row) → row.state ≡ mine → Suits row s → KeepsState row.state s → CoversState (beside row.state s) s
unfolding beside
beside_covers mine s row is suits kept =
    let own = state_covers_itself s s refl in
    record { mode = suits.mode; armed = suits.armed; pairs = own.pairs; flag = kept.flag; shape = own.shape }

pub covers_narrower : (a b : ArrivalView) (s t : AbsState) (row : Row) → CoversArrival a s row → KnowsClaims b row → CoversState s t → CoversArrival b t row
unfolding beside
covers_narrower a b s t row covers knows over =
    let along = state_covers_along (beside row.state s) s t (beside_covers row.state s row refl covers.suits covers.kept) over in
    record {
      suits = record { slots = covers.suits.slots ∙ same_length s.shape t.shape over.shape; mode = along.mode; armed = along.armed };
      kept = record {
        pairs = keeps_pairs row.state.pairs s.pairs t.pairs covers.kept.pairs over.pairs;
        flag = along.flag;
        shape = keeps_slots row.state.shape s.shape t.shape covers.kept.shape over.shape;
      };
      facts = knows.facts;
      parts = knows.parts t;
      tightened = left_still row.state (tightened_by row.facts s) (tightened_by row.facts t) (tightened_still row.facts s t over) covers.tightened;
    }

-- ---- splits

-- claims that are known where one state arrives are known where another one does, at the same address
pub record HandsOn (a b : ArrivalView) : Type 0 where
  pub proc : a.proc ≡ b.proc
  pub address : a.address ≡ b.address
  pub claims : (row : Row) → KnowsClaims a row → KnowsClaims b row

pub hands_itself : (a : ArrivalView) → HandsOn a a
hands_itself a = record { proc = refl; address = refl; claims = λ row knows. knows }

some_whole : (cert : CertificateView) (a b : ArrivalView) (wide state : AbsState) → HandsOn a b → CoversWhole cert a wide → CoversState wide state → SomeCovers cert b state
some_whole cert a b wide state hands whole over = record {
  row = whole.row;
  at = record { listed = whole.at.listed; of = whole.at.of ∙ hands.proc; at = whole.at.at ∙ hands.address };
  covers = covers_narrower a b wide state whole.row whole.covers (hands.claims whole.row whole.knows) over;
}

part_whole : (cert : CertificateView) (a b : ArrivalView) (wide state : AbsState) (part : Option AbsState) → ((p : AbsState) → part ≡ Some p → CoversState state p) →
    HandsOn a b → CoversWhole cert a wide → CoversState wide state → IfSome part (SomeCovers cert b)
part_whole cert a b wide state None within hands whole over = tt
part_whole cert a b wide state (Some p) within hands whole over = some_whole cert a b wide p hands whole (state_covers_along wide state p over (within p refl))

by_whole : (cert : CertificateView) (a b : ArrivalView) (wide state : AbsState) (split : Option Register8) → HandsOn a b → CoversWhole cert a wide →
    CoversState wide state → CoveredBy cert b state split
by_whole cert a b wide state None hands whole over = some_whole cert a b wide state hands whole over
by_whole cert a b wide state (Some register) hands whole over =
    λ value fits.
    part_whole cert a b wide state (byte_is true register value state) (λ p is. covers_part state register value p is) hands whole over

pub covered_whole : (cert : CertificateView) (a b : ArrivalView) (wide state : AbsState) → HandsOn a b → CoversWhole cert a wide → CoversState wide state →
    Covered cert b state
covered_whole cert a b wide state hands whole over = by_whole cert a b wide state (split_at cert b.proc b.address) hands whole over

-- one of the rows at an address, given by its number, covers a state whole
pub whole : (cert : CertificateView) (a : ArrivalView) (state : AbsState) (start end k : ℕ) → AreRowsAt cert a start end → start ≤ k → k < end →
    RowCovers cert a state k → IfSome (slice_get cert.rows k) (KnowsClaims a) → CoversWhole cert a state
whole cert a state start end k rows from below covers knows =
    let place = (rows k covers.row covers.at).0 (from, below) in
    record {
      row = covers.row;
      at = record {
        listed = (k, slice_get_within cert.rows k covers.row covers.at, get_or_from_slice_get cert.rows k covers.row covers.row covers.at);
        of = place.0;
        at = place.1;
      };
      knows = subst (λ (o : Option Row). IfSome o (KnowsClaims a)) covers.at knows;
      covers = covers.covers;
    }
