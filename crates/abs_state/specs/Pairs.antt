-- The ten register pairs (docs/CHECKER.md, "What a row knows").
use Rattle.std.specs.Prelude.{ℕ, ◌≡◌, Some, IfSome}
use Rattle.z80_alu.specs.Word.{word_of}
use Rattle.z80_alu.specs.declared.regs.Regs.{Regs}
use Rattle.intervals.specs.Domain.{Entry}
use Rattle.intervals.specs.Pair.{HoldsPair, CoversPair, OverlapsPair, full_pair, hull_of_pairs as hull_of_two}
use Rattle.intervals.specs.declared.pair.Pair.{Pair}
use Rattle.intervals.specs.declared.reg_pair.RegPair.{RegPair}
use Rattle.intervals.specs.declared.reg_pair.RegPair.TheVariants.{Af, Bc, De, Hl, Ix, Iy, AlternateAf, AlternateBc, AlternateDe, AlternateHl}
use Rattle.abs_state.specs.declared.pairs.Pairs.{Pairs}

-- what is known of a pair
abbrev pub pair_of : RegPair → Pairs → Pair
pair_of Af p = p.af
pair_of Bc p = p.bc
pair_of De p = p.de
pair_of Hl p = p.hl
pair_of Ix p = p.ix
pair_of Iy p = p.iy
pair_of AlternateAf p = p.alternate_af
pair_of AlternateBc p = p.alternate_bc
pair_of AlternateDe p = p.alternate_de
pair_of AlternateHl p = p.alternate_hl

-- one pair is replaced
abbrev pub with_pair : RegPair → Pair → Pairs → Pairs
with_pair Af x p = record p { af = x }
with_pair Bc x p = record p { bc = x }
with_pair De x p = record p { de = x }
with_pair Hl x p = record p { hl = x }
with_pair Ix x p = record p { ix = x }
with_pair Iy x p = record p { iy = x }
with_pair AlternateAf x p = record p { alternate_af = x }
with_pair AlternateBc x p = record p { alternate_bc = x }
with_pair AlternateDe x p = record p { alternate_de = x }
with_pair AlternateHl x p = record p { alternate_hl = x }

-- the word in a register pair
abbrev pub word_in : RegPair → Regs → ℕ
word_in Af regs = word_of regs.main.a regs.main.f
word_in Bc regs = word_of regs.main.b regs.main.c
word_in De regs = word_of regs.main.d regs.main.e
word_in Hl regs = word_of regs.main.h regs.main.l
word_in Ix regs = regs.ix
word_in Iy regs = regs.iy
word_in AlternateAf regs = word_of regs.alternate.a regs.alternate.f
word_in AlternateBc regs = word_of regs.alternate.b regs.alternate.c
word_in AlternateDe regs = word_of regs.alternate.d regs.alternate.e
word_in AlternateHl regs = word_of regs.alternate.h regs.alternate.l

-- each pair holds of the word in its registers
pub record HoldsPairs (p : Pairs) (entry : Entry) (regs : Regs) : Type 0 where
  pub af : HoldsPair p.af entry (word_in Af regs)
  pub bc : HoldsPair p.bc entry (word_in Bc regs)
  pub de : HoldsPair p.de entry (word_in De regs)
  pub hl : HoldsPair p.hl entry (word_in Hl regs)
  pub ix : HoldsPair p.ix entry (word_in Ix regs)
  pub iy : HoldsPair p.iy entry (word_in Iy regs)
  pub alternate_af : HoldsPair p.alternate_af entry (word_in AlternateAf regs)
  pub alternate_bc : HoldsPair p.alternate_bc entry (word_in AlternateBc regs)
  pub alternate_de : HoldsPair p.alternate_de entry (word_in AlternateDe regs)
  pub alternate_hl : HoldsPair p.alternate_hl entry (word_in AlternateHl regs)

-- each pair of the main set and each index register covers the other's
pub record CoversMainSet (p q : Pairs) : Type 0 where
  pub af : CoversPair p.af q.af
  pub bc : CoversPair p.bc q.bc
  pub de : CoversPair p.de q.de
  pub hl : CoversPair p.hl q.hl
  pub ix : CoversPair p.ix q.ix
  pub iy : CoversPair p.iy q.iy

-- each pair of the alternate set covers the other's
pub record CoversAlternate (p q : Pairs) : Type 0 where
  pub alternate_af : CoversPair p.alternate_af q.alternate_af
  pub alternate_bc : CoversPair p.alternate_bc q.alternate_bc
  pub alternate_de : CoversPair p.alternate_de q.alternate_de
  pub alternate_hl : CoversPair p.alternate_hl q.alternate_hl

-- each pair covers the other's
abbrev pub CoversPairs : Pairs → Pairs → Type 0
CoversPairs p q = CoversMainSet p q × CoversAlternate p q

-- the origin of the first pair, if it has one, is the second's
abbrev pub KeepsPair : Pair → Pair → Type 0
KeepsPair p q = IfSome p.origin (λ of. q.origin ≡ Some of)

-- pair by pair
pub record KeepsPairs (p q : Pairs) : Type 0 where
  pub af : KeepsPair p.af q.af
  pub bc : KeepsPair p.bc q.bc
  pub de : KeepsPair p.de q.de
  pub hl : KeepsPair p.hl q.hl
  pub ix : KeepsPair p.ix q.ix
  pub iy : KeepsPair p.iy q.iy
  pub alternate_af : KeepsPair p.alternate_af q.alternate_af
  pub alternate_bc : KeepsPair p.alternate_bc q.alternate_bc
  pub alternate_de : KeepsPair p.alternate_de q.alternate_de
  pub alternate_hl : KeepsPair p.alternate_hl q.alternate_hl

-- each pair overlaps the other's
pub record OverlapsPairs (p q : Pairs) : Type 0 where
  pub af : OverlapsPair p.af q.af
  pub bc : OverlapsPair p.bc q.bc
  pub de : OverlapsPair p.de q.de
  pub hl : OverlapsPair p.hl q.hl
  pub ix : OverlapsPair p.ix q.ix
  pub iy : OverlapsPair p.iy q.iy
  pub alternate_af : OverlapsPair p.alternate_af q.alternate_af
  pub alternate_bc : OverlapsPair p.alternate_bc q.alternate_bc
  pub alternate_de : OverlapsPair p.alternate_de q.alternate_de
  pub alternate_hl : OverlapsPair p.alternate_hl q.alternate_hl

-- the joins, pair by pair
abbrev pub join_of_pairs : Pairs → Pairs → Pairs
join_of_pairs p q = record {
  af = hull_of_two p.af q.af;
  bc = hull_of_two p.bc q.bc;
  de = hull_of_two p.de q.de;
  hl = hull_of_two p.hl q.hl;
  ix = hull_of_two p.ix q.ix;
  iy = hull_of_two p.iy q.iy;
  alternate_af = hull_of_two p.alternate_af q.alternate_af;
  alternate_bc = hull_of_two p.alternate_bc q.alternate_bc;
  alternate_de = hull_of_two p.alternate_de q.alternate_de;
  alternate_hl = hull_of_two p.alternate_hl q.alternate_hl;
}

-- nothing is known of any pair
abbrev pub full_pairs : Pairs
full_pairs = record {
  af = full_pair;
  bc = full_pair;
  de = full_pair;
  hl = full_pair;
  ix = full_pair;
  iy = full_pair;
  alternate_af = full_pair;
  alternate_bc = full_pair;
  alternate_de = full_pair;
  alternate_hl = full_pair;
}

-- the same ranges, with each pair as its own origin
abbrev pub own_pairs : Pairs → Pairs
own_pairs p = record {
  af = record p.af { origin = Some Af };
  bc = record p.bc { origin = Some Bc };
  de = record p.de { origin = Some De };
  hl = record p.hl { origin = Some Hl };
  ix = record p.ix { origin = Some Ix };
  iy = record p.iy { origin = Some Iy };
  alternate_af = record p.alternate_af { origin = Some AlternateAf };
  alternate_bc = record p.alternate_bc { origin = Some AlternateBc };
  alternate_de = record p.alternate_de { origin = Some AlternateDe };
  alternate_hl = record p.alternate_hl { origin = Some AlternateHl };
}

-- the values of the pairs at the entry of an activation that begins with these registers
abbrev pub entry_of : Regs → Entry
entry_of regs = λ r. word_in r regs
