-- Two states that hold of one machine share values; and what cuts leave of a mode.
use Rattle.std.proofs.Common.{◌≡◌, ℕ, List, [], ◌∷◌, Option, Some, None, refl, arith}
use Rattle.std.specs.Prelude.{IfSome, option_map}
use Rattle.intervals.specs.Domain.{Entry}
use Rattle.intervals.specs.Pair.{HoldsPair, OverlapsPair}
use Rattle.intervals.specs.Range.{RangeView, Overlaps, Within}
use Rattle.intervals.specs.declared.pair.Pair.{Pair}
use Rattle.stack_shape.specs.Shape.{HoldsShape, OverlapsShape}
use Rattle.stack_shape.specs.declared.slot.Slot.{Slot}
use Rattle.z80_alu.specs.declared.regs.Regs.{Regs}
use Rattle.z80_decode.specs.declared.operands.Register8.{Register8}
use Rattle.z80_decode.specs.declared.operands.Register8.TheVariants.{A, B, C, D, E, H, L}
use Rattle.abs_state.specs.Covers.{OverlapsState}
use Rattle.abs_state.specs.Holds.{Holds}
use Rattle.abs_state.specs.Restricting.{Cut, cut_byte}
use Rattle.abs_state.specs.Pairs.{HoldsPairs, OverlapsPairs}
use Rattle.abs_state.specs.Seen.{Seen}
use Rattle.abs_state.specs.declared.cell.KeptCell.{KeptCell}
use Rattle.abs_state.specs.declared.mode.Mode.{Mode}
use Rattle.abs_state.specs.declared.pairs.Pairs.{Pairs}
use Rattle.abs_state.specs.declared.state.AbsState.{AbsState}

range_overlaps : (a b : RangeView) (n : ℕ) → Within a n → Within b n → Overlaps a b
range_overlaps a b n v w = (omega (arith, v.0, w.1), omega (arith, v.1, w.0))

pair_overlaps : (p q : Pair) (entry other : Entry) (n : ℕ) → HoldsPair p entry n → HoldsPair q other n → OverlapsPair p q
pair_overlaps p q entry other n h k = record { word = range_overlaps p.word q.word _ h.word k.word; high = range_overlaps p.high q.high _ h.high k.high; low = range_overlaps p.low q.low _ h.low k.low }

pairs_overlap : (p q : Pairs) (entry other : Entry) (regs : Regs) → HoldsPairs p entry regs → HoldsPairs q other regs → OverlapsPairs p q
pairs_overlap p q entry other regs h k = record {
  af = pair_overlaps p.af q.af entry other _ h.af k.af;
  bc = pair_overlaps p.bc q.bc entry other _ h.bc k.bc;
  de = pair_overlaps p.de q.de entry other _ h.de k.de;
  hl = pair_overlaps p.hl q.hl entry other _ h.hl k.hl;
  ix = pair_overlaps p.ix q.ix entry other _ h.ix k.ix;
  iy = pair_overlaps p.iy q.iy entry other _ h.iy k.iy;
  alternate_af = pair_overlaps p.alternate_af q.alternate_af entry other _ h.alternate_af k.alternate_af;
  alternate_bc = pair_overlaps p.alternate_bc q.alternate_bc entry other _ h.alternate_bc k.alternate_bc;
  alternate_de = pair_overlaps p.alternate_de q.alternate_de entry other _ h.alternate_de k.alternate_de;
  alternate_hl = pair_overlaps p.alternate_hl q.alternate_hl entry other _ h.alternate_hl k.alternate_hl;
}

shape_overlaps : (xs ys : List Slot) (entry other : Entry) (words : List ℕ) → HoldsShape xs entry words → HoldsShape ys other words → OverlapsShape xs ys
shape_overlaps [] [] entry other words h k = tt
shape_overlaps [] (y ∷ ys) entry other [] h k = absurd k
shape_overlaps [] (y ∷ ys) entry other (w ∷ ws) h k = absurd h
shape_overlaps (x ∷ xs) [] entry other [] h k = absurd h
shape_overlaps (x ∷ xs) [] entry other (w ∷ ws) h k = absurd k
shape_overlaps (x ∷ xs) (y ∷ ys) entry other [] h k = absurd h
shape_overlaps (x ∷ xs) (y ∷ ys) entry other (w ∷ ws) h k = (pair_overlaps x.pair y.pair entry other w h.0 k.0, shape_overlaps xs ys entry other ws h.1 k.1)

-- two states that hold of one machine overlap
pub states_overlap : (a b : AbsState) (cells : List KeptCell) (entry other : Entry) (m : Seen) → Holds a cells entry m → Holds b cells other m → OverlapsState a b
states_overlap a b cells entry other m h k = record { pairs = pairs_overlap a.pairs b.pairs entry other m.regs h.pairs k.pairs; shape = shape_overlaps a.shape b.shape entry other m.words h.shape k.shape }

-- ---- a cut of a register leaves the mode

mapped_mode : (o : Option Pair) (f : Pair → AbsState) (mode : Mode) → ((p : Pair) → (f p).mode ≡ mode) → IfSome (option_map f o) (λ t. t.mode ≡ mode)
mapped_mode None f mode h = tt
mapped_mode (Some p) f mode h = h p

pub cut_mode : (r : Register8) (cut : Cut) (s : AbsState) → IfSome (cut_byte r cut s) (λ t. t.mode ≡ s.mode)
cut_mode A cut s = mapped_mode _ _ s.mode (λ p. refl)
cut_mode B cut s = mapped_mode _ _ s.mode (λ p. refl)
cut_mode C cut s = mapped_mode _ _ s.mode (λ p. refl)
cut_mode D cut s = mapped_mode _ _ s.mode (λ p. refl)
cut_mode E cut s = mapped_mode _ _ s.mode (λ p. refl)
cut_mode H cut s = mapped_mode _ _ s.mode (λ p. refl)
cut_mode L cut s = mapped_mode _ _ s.mode (λ p. refl)
