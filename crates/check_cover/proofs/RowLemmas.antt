-- A row without facts and flag parts covers what its state covers: a state that covers another keeps its origins and its flag fact.
use Rattle.std.proofs.Common.{◌≡◌, ◌==◌, ◌↔◌, suc, ap, Bool, IsTrue, true, List, [], ◌∷◌, length, IfSome, arith, refl, sym, subst}
use Rattle.std.proofs.lemmas.Bool.{eqb-true}
use Rattle.std.specs.List.{All, AllZip}
use Rattle.abs_state.specs.Covers.{CoversState, KeepsSlot, KeepsState}
use Rattle.abs_state.specs.Pairs.{CoversPairs, KeepsPairs}
use Rattle.abs_state.specs.declared.pairs.Pairs.{Pairs}
use Rattle.abs_state.specs.declared.state.AbsState.{AbsState}
use Rattle.check_cover.specs.Arrival.{ArrivalView}
use Rattle.check_cover.specs.Covering.{CoversArrival, KnowsFact, KnowsPart, tightened_by}
use Rattle.cert_lines.specs.declared.row.Row.{Row}
use Rattle.flag_letters.specs.declared.part.FlagPart.{FlagPart}
use Rattle.loop_bounds.specs.Linear.{LinearView}
use Rattle.stack_shape.specs.Shape.{CoversShape}
use Rattle.stack_shape.specs.declared.slot.Slot.{Slot}

keeps_pairs : (p q : Pairs) → CoversPairs p q → KeepsPairs p q
keeps_pairs p q covers = record {
  af = covers.0.af.origin;
  bc = covers.0.bc.origin;
  de = covers.0.de.origin;
  hl = covers.0.hl.origin;
  ix = covers.0.ix.origin;
  iy = covers.0.iy.origin;
  alternate_af = covers.1.alternate_af.origin;
  alternate_bc = covers.1.alternate_bc.origin;
  alternate_de = covers.1.alternate_de.origin;
  alternate_hl = covers.1.alternate_hl.origin;
}

keeps_slots : (mine theirs : List Slot) → CoversShape mine theirs → AllZip KeepsSlot mine theirs
keeps_slots [] [] covers = tt
keeps_slots [] (t ∷ ts) covers = absurd covers
keeps_slots (s ∷ ss) [] covers = absurd covers
keeps_slots (s ∷ ss) (t ∷ ts) covers = (covers.0.origin, keeps_slots ss ts covers.1)

covering_keeps : (a b : AbsState) → CoversState a b → KeepsState a b
covering_keeps a b covers = record {
  pairs = keeps_pairs a.pairs b.pairs covers.pairs;
  flag = covers.flag;
  shape = keeps_slots a.shape b.shape covers.shape;
}

pub no_elements : {X : Type 0} (xs : List X) → true ≡ (length xs == 0) → xs ≡ []
no_elements [] e = refl
no_elements (x ∷ xs) e = let none = eqb-true (length (x ∷ xs)) 0 (sym e) in absurd (omega (arith, none))

one_length : (mine theirs : List Slot) → CoversShape mine theirs → length mine ≡ length theirs
one_length [] [] covers = refl
one_length [] (t ∷ ts) covers = absurd covers
one_length (s ∷ ss) [] covers = absurd covers
one_length (s ∷ ss) (t ∷ ts) covers = ap suc (one_length ss ts covers.1)

pub covers_without_facts : (a : ArrivalView) (state : AbsState) (row : Row) (told : Bool) → row.facts ≡ [] → row.parts ≡ [] →
    (IsTrue told ↔ CoversState row.state state) → IsTrue told ↔ CoversArrival a state row
unfolding tightened_by
covers_without_facts a state row told none no_parts exact = (
  λ t. record {
    suits = record {
      slots = one_length row.state.shape state.shape (exact.0 t).shape;
      mode = (exact.0 t).mode;
      armed = (exact.0 t).armed;
    };
    kept = covering_keeps row.state state (exact.0 t);
    facts = subst (λ (facts : List LinearView). All (KnowsFact a a.refined) facts) (sym none) (λ k fact within. absurd (omega (arith, within)));
    parts = subst (λ (parts : List FlagPart). All (KnowsPart a a.refined state) parts) (sym no_parts) (λ k part within. absurd (omega (arith, within)));
    tightened = subst (λ (facts : List LinearView). IfSome (tightened_by facts state) (CoversState row.state)) (sym none) (exact.0 t);
  },
  λ covers. exact.1 (subst (λ (facts : List LinearView). IfSome (tightened_by facts state) (CoversState row.state)) none covers.tightened),
)
