-- Covering of states, and a join covers both.
use Rattle.std.proofs.Common.{◌≡◌, ◌≤◌, ℕ, Bool, true, refl, sym, ap, ◌∙◌, zero, suc, arith, rules, List, [], ◌∷◌, length, Option, Some, None, inl, inr, ◌⊎◌, cond, eqb, subst}
use Rattle.std.proofs.lemmas.Bool.{cases_Bool, eqb-true}
use Rattle.intervals.specs.Domain.{Entry}
use Rattle.intervals.specs.PairLaws.{covers_itself, covers_along, holds_wider, hull_covers_first, hull_covers_second}
use Rattle.stack_shape.proofs.ShapeLemmas.{shape_covers_itself, shape_covers_along, shape_holds_wider, hull_covers_first_shape, hull_covers_second_shape}
use Rattle.z80_alu.specs.declared.regs.Regs.{Regs}
use Rattle.z80_decode.specs.declared.operands.Register8.{Register8}
use Rattle.z80_decode.specs.declared.operands.Register8.TheVariants.{A, B, C, D, E, H, L}
use Rattle.abs_state.specs.Cell.{HoldsCells}
use Rattle.abs_state.specs.Covers.{CoversState, hull_in}
use Rattle.abs_state.specs.Fact.{HoldsFact, place_of_byte, is_same_byte, is_same_fact, covers_fact, hull_of_facts}
use Rattle.abs_state.specs.Holds.{Holds, HoldsMode}
use Rattle.abs_state.specs.Mode.{covers_mode, hull_of_modes}
use Rattle.abs_state.specs.Pairs.{HoldsPairs, CoversPairs, join_of_pairs}
use Rattle.abs_state.specs.Seen.{Seen}
use Rattle.abs_state.specs.declared.cell.KeptCell.{KeptCell}
use Rattle.abs_state.specs.declared.fact.FlagFact.{FlagFact}
use Rattle.abs_state.specs.declared.fact.FlagFact.TheVariants.{Zero, Compared}
use Rattle.abs_state.specs.declared.mode.Mode.{Mode}
use Rattle.abs_state.specs.declared.mode.Mode.TheVariants.{Unset, Set, Nmi}
use Rattle.abs_state.specs.declared.pairs.Pairs.{Pairs}
use Rattle.abs_state.specs.declared.state.AbsState.{AbsState}

-- ---- modes

mode_covers_itself : (a : Mode) → covers_mode a a ≡ true
mode_covers_itself Unset = refl
mode_covers_itself Set = refl
mode_covers_itself Nmi = refl

mode_covers_along : (a b c : Mode) → covers_mode a b ≡ true → covers_mode b c ≡ true → covers_mode a c ≡ true
mode_covers_along Unset Unset Unset h k = refl
mode_covers_along Unset Unset Set h k = refl
mode_covers_along Unset Unset Nmi h k = k
mode_covers_along Unset Set Unset h k = refl
mode_covers_along Unset Set Set h k = refl
mode_covers_along Unset Set Nmi h k = k
mode_covers_along Unset Nmi Unset h k = refl
mode_covers_along Unset Nmi Set h k = refl
mode_covers_along Unset Nmi Nmi h k = h
mode_covers_along Set Unset Unset h k = h
mode_covers_along Set Unset Set h k = refl
mode_covers_along Set Unset Nmi h k = h
mode_covers_along Set Set Unset h k = k
mode_covers_along Set Set Set h k = refl
mode_covers_along Set Set Nmi h k = k
mode_covers_along Set Nmi Unset h k = h
mode_covers_along Set Nmi Set h k = refl
mode_covers_along Set Nmi Nmi h k = h
mode_covers_along Nmi Unset Unset h k = h
mode_covers_along Nmi Unset Set h k = refl
mode_covers_along Nmi Unset Nmi h k = refl
mode_covers_along Nmi Set Unset h k = k
mode_covers_along Nmi Set Set h k = refl
mode_covers_along Nmi Set Nmi h k = refl
mode_covers_along Nmi Nmi Unset h k = k
mode_covers_along Nmi Nmi Set h k = refl
mode_covers_along Nmi Nmi Nmi h k = refl

mode_wider : (a b : Mode) (enable line latched : Bool) → covers_mode a b ≡ true → HoldsMode b enable line latched → HoldsMode a enable line latched
mode_wider Unset Unset enable line latched h k = k
mode_wider Unset Set enable line latched h k = k
mode_wider Unset Nmi enable line latched h k = absurd (search rules)
mode_wider Set Unset enable line latched h k = absurd (search rules)
mode_wider Set Set enable line latched h k = k
mode_wider Set Nmi enable line latched h k = absurd (search rules)
mode_wider Nmi Unset enable line latched h k = tt
mode_wider Nmi Set enable line latched h k = tt
mode_wider Nmi Nmi enable line latched h k = tt

-- the join of two modes covers both
pub mode_join_covers : (a b m : Mode) → hull_of_modes a b ≡ Some m → (covers_mode m a ≡ true) × (covers_mode m b ≡ true)
mode_join_covers Unset Unset m e = let same : Unset ≡ m = cc in rw (← same) (refl, refl)
mode_join_covers Unset Set m e = let same : Unset ≡ m = cc in rw (← same) (refl, refl)
mode_join_covers Unset Nmi m e = absurd (search rules)
mode_join_covers Set Unset m e = let same : Unset ≡ m = cc in rw (← same) (refl, refl)
mode_join_covers Set Set m e = let same : Set ≡ m = cc in rw (← same) (refl, refl)
mode_join_covers Set Nmi m e = let same : Nmi ≡ m = cc in rw (← same) (refl, refl)
mode_join_covers Nmi Unset m e = absurd (search rules)
mode_join_covers Nmi Set m e = let same : Nmi ≡ m = cc in rw (← same) (refl, refl)
mode_join_covers Nmi Nmi m e = let same : Nmi ≡ m = cc in rw (← same) (refl, refl)

-- ---- flag facts

fact_covers_itself : (f : Option FlagFact) → covers_fact f f ≡ true
fact_covers_itself None = refl
fact_covers_itself (Some (Compared n)) = search rules
fact_covers_itself (Some (Zero A)) = refl
fact_covers_itself (Some (Zero B)) = refl
fact_covers_itself (Some (Zero C)) = refl
fact_covers_itself (Some (Zero D)) = refl
fact_covers_itself (Some (Zero E)) = refl
fact_covers_itself (Some (Zero H)) = refl
fact_covers_itself (Some (Zero L)) = refl

byte_at : ℕ → Register8
byte_at n = cond (eqb n 0) B (cond (eqb n 1) C (cond (eqb n 2) D (cond (eqb n 3) E (cond (eqb n 4) H (cond (eqb n 5) L A)))))

byte_at_place : (r : Register8) → byte_at (place_of_byte r) ≡ r
unfolding byte_at
byte_at_place A = refl
byte_at_place B = refl
byte_at_place C = refl
byte_at_place D = refl
byte_at_place E = refl
byte_at_place H = refl
byte_at_place L = refl

same_byte : (r s : Register8) → is_same_byte r s ≡ true → r ≡ s
same_byte r s e = sym (byte_at_place r) ∙ ap byte_at (eqb-true _ _ e) ∙ byte_at_place s

same_fact : (f g : FlagFact) → is_same_fact f g ≡ true → f ≡ g
same_fact (Zero r) (Zero s) e = ap Zero (same_byte r s e)
same_fact (Zero r) (Compared m) e = absurd (search rules)
same_fact (Compared n) (Zero s) e = absurd (search rules)
same_fact (Compared n) (Compared m) e = ap Compared (eqb-true _ _ e)

-- a fact that covers another is the same, or none
fact_is : (f : FlagFact) (b : Option FlagFact) → covers_fact (Some f) b ≡ true → Some f ≡ b
fact_is f None e = absurd (search rules)
fact_is f (Some g) e = ap Some (same_fact f g e)

fact_covers_along : (a b c : Option FlagFact) → covers_fact a b ≡ true → covers_fact b c ≡ true → covers_fact a c ≡ true
fact_covers_along None b c h k = refl
fact_covers_along (Some f) b c h k = rw (fact_is f b h) k

fact_wider : (a b : Option FlagFact) (regs : Regs) → covers_fact a b ≡ true → HoldsFact b regs → HoldsFact a regs
fact_wider None b regs h k = tt
fact_wider (Some f) b regs h k = subst (λ (g : Option FlagFact). HoldsFact g regs) (sym (fact_is f b h)) k

hull_covers_first_fact : (a b : Option FlagFact) → covers_fact (hull_of_facts a b) a ≡ true
hull_covers_first_fact a b = elim (cases_Bool (covers_fact a b)) [
  | inl t ↦ rw t (fact_covers_itself a)
  | inr f ↦ rw f refl
]

hull_covers_second_fact : (a b : Option FlagFact) → covers_fact (hull_of_facts a b) b ≡ true
hull_covers_second_fact a b = elim (cases_Bool (covers_fact a b)) [
  | inl t ↦ rw t t
  | inr f ↦ rw f refl
]

-- ---- cells

fewer_hold : (fewer more : ℕ) (cells : List KeptCell) (bytes : List ℕ) → fewer ≤ more → HoldsCells more cells bytes → HoldsCells fewer cells bytes
fewer_hold zero more cells bytes l h = tt
fewer_hold (suc fewer) zero cells bytes l h = absurd (omega arith)
fewer_hold (suc fewer) (suc more) [] [] l h = tt
fewer_hold (suc fewer) (suc more) [] (b ∷ bytes) l h = absurd h
fewer_hold (suc fewer) (suc more) (c ∷ cells) [] l h = absurd h
fewer_hold (suc fewer) (suc more) (c ∷ cells) (b ∷ bytes) l h = (h.0, fewer_hold fewer more cells bytes (omega arith) h.1)

-- ---- pairs

pairs_cover_themselves : (p : Pairs) → CoversPairs p p
pairs_cover_themselves p = (record { af = covers_itself p.af; bc = covers_itself p.bc; de = covers_itself p.de; hl = covers_itself p.hl; ix = covers_itself p.ix; iy = covers_itself p.iy }, record { alternate_af = covers_itself p.alternate_af; alternate_bc = covers_itself p.alternate_bc; alternate_de = covers_itself p.alternate_de; alternate_hl = covers_itself p.alternate_hl })

pairs_cover_along : (p q r : Pairs) → CoversPairs p q → CoversPairs q r → CoversPairs p r
pairs_cover_along p q r h k = let hm = h.0 in let ha = h.1 in let km = k.0 in let ka = k.1 in (record { af = covers_along p.af q.af r.af hm.af km.af; bc = covers_along p.bc q.bc r.bc hm.bc km.bc; de = covers_along p.de q.de r.de hm.de km.de; hl = covers_along p.hl q.hl r.hl hm.hl km.hl; ix = covers_along p.ix q.ix r.ix hm.ix km.ix; iy = covers_along p.iy q.iy r.iy hm.iy km.iy }, record { alternate_af = covers_along p.alternate_af q.alternate_af r.alternate_af ha.alternate_af ka.alternate_af; alternate_bc = covers_along p.alternate_bc q.alternate_bc r.alternate_bc ha.alternate_bc ka.alternate_bc; alternate_de = covers_along p.alternate_de q.alternate_de r.alternate_de ha.alternate_de ka.alternate_de; alternate_hl = covers_along p.alternate_hl q.alternate_hl r.alternate_hl ha.alternate_hl ka.alternate_hl })

pairs_wider : (p q : Pairs) (entry : Entry) (regs : Regs) → CoversPairs p q → HoldsPairs q entry regs → HoldsPairs p entry regs
pairs_wider p q entry regs c h = let cm = c.0 in let ca = c.1 in record { af = holds_wider p.af q.af entry _ cm.af h.af; bc = holds_wider p.bc q.bc entry _ cm.bc h.bc; de = holds_wider p.de q.de entry _ cm.de h.de; hl = holds_wider p.hl q.hl entry _ cm.hl h.hl; ix = holds_wider p.ix q.ix entry _ cm.ix h.ix; iy = holds_wider p.iy q.iy entry _ cm.iy h.iy; alternate_af = holds_wider p.alternate_af q.alternate_af entry _ ca.alternate_af h.alternate_af; alternate_bc = holds_wider p.alternate_bc q.alternate_bc entry _ ca.alternate_bc h.alternate_bc; alternate_de = holds_wider p.alternate_de q.alternate_de entry _ ca.alternate_de h.alternate_de; alternate_hl = holds_wider p.alternate_hl q.alternate_hl entry _ ca.alternate_hl h.alternate_hl }

hull_covers_first_pairs : (p q : Pairs) → CoversPairs (join_of_pairs p q) p
hull_covers_first_pairs p q = (record { af = hull_covers_first p.af q.af; bc = hull_covers_first p.bc q.bc; de = hull_covers_first p.de q.de; hl = hull_covers_first p.hl q.hl; ix = hull_covers_first p.ix q.ix; iy = hull_covers_first p.iy q.iy }, record { alternate_af = hull_covers_first p.alternate_af q.alternate_af; alternate_bc = hull_covers_first p.alternate_bc q.alternate_bc; alternate_de = hull_covers_first p.alternate_de q.alternate_de; alternate_hl = hull_covers_first p.alternate_hl q.alternate_hl })

hull_covers_second_pairs : (p q : Pairs) → CoversPairs (join_of_pairs p q) q
hull_covers_second_pairs p q = (record { af = hull_covers_second p.af q.af; bc = hull_covers_second p.bc q.bc; de = hull_covers_second p.de q.de; hl = hull_covers_second p.hl q.hl; ix = hull_covers_second p.ix q.ix; iy = hull_covers_second p.iy q.iy }, record { alternate_af = hull_covers_second p.alternate_af q.alternate_af; alternate_bc = hull_covers_second p.alternate_bc q.alternate_bc; alternate_de = hull_covers_second p.alternate_de q.alternate_de; alternate_hl = hull_covers_second p.alternate_hl q.alternate_hl })

-- ---- states

pub state_covers_itself : (a b : AbsState) → a ≡ b → CoversState a b
state_covers_itself a b e = subst (λ (c : AbsState). CoversState a c) e (record {
  mode = mode_covers_itself a.mode;
  armed = omega arith;
  pairs = pairs_cover_themselves a.pairs;
  flag = fact_covers_itself a.flag;
  shape = shape_covers_itself a.shape;
})

pub state_covers_along : (a b c : AbsState) → CoversState a b → CoversState b c → CoversState a c
state_covers_along a b c h k = record {
  mode = mode_covers_along a.mode b.mode c.mode h.mode k.mode;
  armed = let x = h.armed in let y = k.armed in omega arith;
  pairs = pairs_cover_along a.pairs b.pairs c.pairs h.pairs k.pairs;
  flag = fact_covers_along a.flag b.flag c.flag h.flag k.flag;
  shape = shape_covers_along a.shape b.shape c.shape h.shape k.shape;
}

pub state_wider : (a b : AbsState) (cells : List KeptCell) (entry : Entry) (m : Seen) → CoversState a b → Holds b cells entry m → Holds a cells entry m
state_wider a b cells entry m c h = record {
  mode = mode_wider a.mode b.mode m.enable m.line m.latched c.mode h.mode;
  cells_hold = fewer_hold a.armed b.armed cells m.cells c.armed h.cells_hold;
  pairs = pairs_wider a.pairs b.pairs entry m.regs c.pairs h.pairs;
  flag = fact_wider a.flag b.flag m.regs c.flag h.flag;
  shape = shape_holds_wider a.shape b.shape entry m.words c.shape h.shape;
}

pub join_covers : (a b : AbsState) (mode : Mode) → length a.shape ≡ length b.shape → hull_of_modes a.mode b.mode ≡ Some mode → CoversState (hull_in a b mode) a × CoversState (hull_in a b mode) b
join_covers a b mode l e = let m = mode_join_covers a.mode b.mode mode e in (
  record {
    mode = m.0;
    armed = omega arith;
    pairs = hull_covers_first_pairs a.pairs b.pairs;
    flag = hull_covers_first_fact a.flag b.flag;
    shape = hull_covers_first_shape a.shape b.shape l;
  },
  record {
    mode = m.1;
    armed = omega arith;
    pairs = hull_covers_second_pairs a.pairs b.pairs;
    flag = hull_covers_second_fact a.flag b.flag;
    shape = hull_covers_second_shape a.shape b.shape l;
  },
)

pub join_holds : (a b : AbsState) (mode : Mode) (cells : List KeptCell) (entry : Entry) (m : Seen) → length a.shape ≡ length b.shape → hull_of_modes a.mode b.mode ≡ Some mode → Holds a cells entry m ⊎ Holds b cells entry m → Holds (hull_in a b mode) cells entry m
join_holds a b mode cells entry m l e (inl h) = state_wider (hull_in a b mode) a cells entry m (join_covers a b mode l e).0 h
join_holds a b mode cells entry m l e (inr h) = state_wider (hull_in a b mode) b cells entry m (join_covers a b mode l e).1 h
