-- Writes and exchanges of registers on an abstract state (docs/CHECKER.md, "What a row knows").
use Rattle.std.specs.Prelude.{Option, None}
use Rattle.intervals.specs.Pair.{written_word, written_bytes}
use Rattle.intervals.specs.Range.{RangeView, full}
use Rattle.intervals.specs.declared.pair.Pair.{Pair}
use Rattle.intervals.specs.declared.reg_pair.RegPair.{RegPair}
use Rattle.intervals.specs.declared.reg_pair.RegPair.TheVariants.{Af, Bc, De, Hl, Ix, Iy, AlternateAf, AlternateBc, AlternateDe, AlternateHl}
use Rattle.z80_decode.specs.declared.operands.Register8.{Register8}
use Rattle.z80_decode.specs.declared.operands.Register8.TheVariants.{A, B, C, D, E, H, L}
use Rattle.abs_state.specs.Fact.{fact_without}
use Rattle.abs_state.specs.Pairs.{with_pair}
use Rattle.abs_state.specs.declared.fact.FlagFact.{FlagFact}
use Rattle.abs_state.specs.declared.pairs.Pairs.{Pairs}
use Rattle.abs_state.specs.declared.state.AbsState.{AbsState}

-- the range of a register
abbrev pub byte_of : Register8 → Pairs → RangeView
byte_of A p = p.af.high
byte_of B p = p.bc.high
byte_of C p = p.bc.low
byte_of D p = p.de.high
byte_of E p = p.de.low
byte_of H p = p.hl.high
byte_of L p = p.hl.low

-- a written byte: the word of its pair is made of the bytes, and the pair loses its origin
abbrev pub with_byte_range : Register8 → RangeView → Pairs → Pairs
with_byte_range A range p = record p { af = written_bytes range p.af.low }
with_byte_range B range p = record p { bc = written_bytes range p.bc.low }
with_byte_range C range p = record p { bc = written_bytes p.bc.high range }
with_byte_range D range p = record p { de = written_bytes range p.de.low }
with_byte_range E range p = record p { de = written_bytes p.de.high range }
with_byte_range H range p = record p { hl = written_bytes range p.hl.low }
with_byte_range L range p = record p { hl = written_bytes p.hl.high range }

-- the flag fact after a write to a pair; none for AF
abbrev pub fact_behind : RegPair → Option FlagFact → Option FlagFact
fact_behind Af fact = None
fact_behind Bc fact = fact_without B (fact_without C fact)
fact_behind De fact = fact_without D (fact_without E fact)
fact_behind Hl fact = fact_without H (fact_without L fact)
fact_behind Ix fact = fact
fact_behind Iy fact = fact
fact_behind AlternateAf fact = fact
fact_behind AlternateBc fact = fact
fact_behind AlternateDe fact = fact
fact_behind AlternateHl fact = fact

-- a register is written
abbrev pub put_byte : Register8 → RangeView → AbsState → AbsState
put_byte r range s = record s { pairs = with_byte_range r range s.pairs; flag = fact_without r s.flag }

-- a pair is replaced: ranges and origin
abbrev pub put_pair : RegPair → Pair → AbsState → AbsState
put_pair r pair s = record s { pairs = with_pair r pair s.pairs; flag = fact_behind r s.flag }

-- a word is written to a pair
abbrev pub put_word : RegPair → RangeView → AbsState → AbsState
put_word r range s = put_pair r (written_word range) s

-- the flags change: F is full, and the fact is the given one
abbrev pub put_flags : Option FlagFact → AbsState → AbsState
put_flags fact s = record s { pairs = record s.pairs { af = written_bytes s.pairs.af.high (full 256) }; flag = fact }

-- EX DE,HL
abbrev pub exchange_de_hl : AbsState → AbsState
exchange_de_hl s = record s {
  pairs = record s.pairs { de = s.pairs.hl; hl = s.pairs.de };
  flag = fact_behind De (fact_behind Hl s.flag);
}

-- EX AF,AF', which changes the flags
abbrev pub exchange_af : AbsState → AbsState
exchange_af s = record s {
  pairs = record s.pairs { af = s.pairs.alternate_af; alternate_af = s.pairs.af };
  flag = None;
}

-- EXX
abbrev pub exchange_sets : AbsState → AbsState
exchange_sets s = record s {
  pairs = record s.pairs {
    bc = s.pairs.alternate_bc;
    de = s.pairs.alternate_de;
    hl = s.pairs.alternate_hl;
    alternate_bc = s.pairs.bc;
    alternate_de = s.pairs.de;
    alternate_hl = s.pairs.hl;
  };
  flag = fact_behind Bc (fact_behind De (fact_behind Hl s.flag));
}
