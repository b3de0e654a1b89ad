-- A state that holds still holds after the same change of a register in state and machine.
use Rattle.std.proofs.Common.{◌≡◌, ◌<◌, ◌+◌, ◌*◌, ◌/◌, ◌%◌, ℕ, refl, sym, subst, arith, List, Option, Some, None}
use Rattle.intervals.specs.Domain.{Entry}
use Rattle.intervals.specs.Pair.{HoldsPair, written_bytes}
use Rattle.intervals.specs.Range.{RangeView, Within}
use Rattle.intervals.specs.declared.pair.Pair.{Pair}
use Rattle.intervals.specs.declared.reg_pair.RegPair.{RegPair}
use Rattle.intervals.specs.declared.reg_pair.RegPair.TheVariants.{Af, Bc, De, Hl, Ix, Iy, AlternateAf, AlternateBc, AlternateDe, AlternateHl}
use Rattle.intervals.proofs.PairChanges.{written_bytes_holds}
use Rattle.z80_alu.specs.Word.{word_of}
use Rattle.z80_alu.specs.declared.regs.Regs.{Regs}
use Rattle.z80_decode.specs.declared.operands.Register8.{Register8}
use Rattle.z80_decode.specs.declared.operands.Register8.TheVariants.{A, B, C, D, E, H, L}
use Rattle.z80_draft.specs.Registers.{IsRegs}
use Rattle.abs_state.specs.Entries.{returned_pair, returned_pairs, after_call}
use Rattle.abs_state.specs.Fact.{HoldsFact, fact_without}
use Rattle.abs_state.specs.Holds.{Holds}
use Rattle.abs_state.specs.Pairs.{HoldsPairs, pair_of, with_pair, word_in, entry_of}
use Rattle.abs_state.specs.Registers.{with_byte_range, fact_behind, put_byte, put_pair}
use Rattle.abs_state.specs.Seen.{Seen, regs_with_byte, regs_with_word}
use Rattle.abs_state.specs.declared.cell.KeptCell.{KeptCell}
use Rattle.abs_state.specs.declared.fact.FlagFact.{FlagFact}
use Rattle.abs_state.specs.declared.fact.FlagFact.TheVariants.{Zero, Compared}
use Rattle.abs_state.specs.declared.pairs.Pairs.{Pairs}
use Rattle.abs_state.specs.declared.state.AbsState.{AbsState}

-- a fact stays after a write to another register
pub fact_kept : (r : Register8) (n : ℕ) (fact : Option FlagFact) (regs : Regs) → HoldsFact fact regs → HoldsFact (fact_without r fact) (regs_with_byte r n regs)
fact_kept A n None regs h = tt
fact_kept A n (Some (Zero A)) regs h = tt
fact_kept A n (Some (Zero B)) regs h = h
fact_kept A n (Some (Zero C)) regs h = h
fact_kept A n (Some (Zero D)) regs h = h
fact_kept A n (Some (Zero E)) regs h = h
fact_kept A n (Some (Zero H)) regs h = h
fact_kept A n (Some (Zero L)) regs h = h
fact_kept A n (Some (Compared byte)) regs h = tt
fact_kept B n None regs h = tt
fact_kept B n (Some (Zero A)) regs h = h
fact_kept B n (Some (Zero B)) regs h = tt
fact_kept B n (Some (Zero C)) regs h = h
fact_kept B n (Some (Zero D)) regs h = h
fact_kept B n (Some (Zero E)) regs h = h
fact_kept B n (Some (Zero H)) regs h = h
fact_kept B n (Some (Zero L)) regs h = h
fact_kept B n (Some (Compared byte)) regs h = h
fact_kept C n None regs h = tt
fact_kept C n (Some (Zero A)) regs h = h
fact_kept C n (Some (Zero B)) regs h = h
fact_kept C n (Some (Zero C)) regs h = tt
fact_kept C n (Some (Zero D)) regs h = h
fact_kept C n (Some (Zero E)) regs h = h
fact_kept C n (Some (Zero H)) regs h = h
fact_kept C n (Some (Zero L)) regs h = h
fact_kept C n (Some (Compared byte)) regs h = h
fact_kept D n None regs h = tt
fact_kept D n (Some (Zero A)) regs h = h
fact_kept D n (Some (Zero B)) regs h = h
fact_kept D n (Some (Zero C)) regs h = h
fact_kept D n (Some (Zero D)) regs h = tt
fact_kept D n (Some (Zero E)) regs h = h
fact_kept D n (Some (Zero H)) regs h = h
fact_kept D n (Some (Zero L)) regs h = h
fact_kept D n (Some (Compared byte)) regs h = h
fact_kept E n None regs h = tt
fact_kept E n (Some (Zero A)) regs h = h
fact_kept E n (Some (Zero B)) regs h = h
fact_kept E n (Some (Zero C)) regs h = h
fact_kept E n (Some (Zero D)) regs h = h
fact_kept E n (Some (Zero E)) regs h = tt
fact_kept E n (Some (Zero H)) regs h = h
fact_kept E n (Some (Zero L)) regs h = h
fact_kept E n (Some (Compared byte)) regs h = h
fact_kept H n None regs h = tt
fact_kept H n (Some (Zero A)) regs h = h
fact_kept H n (Some (Zero B)) regs h = h
fact_kept H n (Some (Zero C)) regs h = h
fact_kept H n (Some (Zero D)) regs h = h
fact_kept H n (Some (Zero E)) regs h = h
fact_kept H n (Some (Zero H)) regs h = tt
fact_kept H n (Some (Zero L)) regs h = h
fact_kept H n (Some (Compared byte)) regs h = h
fact_kept L n None regs h = tt
fact_kept L n (Some (Zero A)) regs h = h
fact_kept L n (Some (Zero B)) regs h = h
fact_kept L n (Some (Zero C)) regs h = h
fact_kept L n (Some (Zero D)) regs h = h
fact_kept L n (Some (Zero E)) regs h = h
fact_kept L n (Some (Zero H)) regs h = h
fact_kept L n (Some (Zero L)) regs h = tt
fact_kept L n (Some (Compared byte)) regs h = h

-- a fact depends only on the main set
fact_of_main : (fact : Option FlagFact) (regs new : Regs) → new.main ≡ regs.main → HoldsFact fact regs → HoldsFact fact new
fact_of_main None regs new e h = tt
fact_of_main (Some (Compared byte)) regs new e h = rw e h
fact_of_main (Some (Zero A)) regs new e h = rw e h
fact_of_main (Some (Zero B)) regs new e h = rw e h
fact_of_main (Some (Zero C)) regs new e h = rw e h
fact_of_main (Some (Zero D)) regs new e h = rw e h
fact_of_main (Some (Zero E)) regs new e h = rw e h
fact_of_main (Some (Zero H)) regs new e h = rw e h
fact_of_main (Some (Zero L)) regs new e h = rw e h

fact_kept_behind : (pair : RegPair) (word : ℕ) (fact : Option FlagFact) (regs : Regs) → HoldsFact fact regs → HoldsFact (fact_behind pair fact) (regs_with_word pair word regs)
fact_kept_behind Af word fact regs h = tt
fact_kept_behind Bc word fact regs h = fact_kept B (word / 256) (fact_without C fact) (regs_with_byte C (word % 256) regs) (fact_kept C (word % 256) fact regs h)
fact_kept_behind De word fact regs h = fact_kept D (word / 256) (fact_without E fact) (regs_with_byte E (word % 256) regs) (fact_kept E (word % 256) fact regs h)
fact_kept_behind Hl word fact regs h = fact_kept H (word / 256) (fact_without L fact) (regs_with_byte L (word % 256) regs) (fact_kept L (word % 256) fact regs h)
fact_kept_behind Ix word fact regs h = fact_of_main fact regs _ refl h
fact_kept_behind Iy word fact regs h = fact_of_main fact regs _ refl h
fact_kept_behind AlternateAf word fact regs h = fact_of_main fact regs _ refl h
fact_kept_behind AlternateBc word fact regs h = fact_of_main fact regs _ refl h
fact_kept_behind AlternateDe word fact regs h = fact_of_main fact regs _ refl h
fact_kept_behind AlternateHl word fact regs h = fact_of_main fact regs _ refl h

-- a byte is written
high_put : (p : Pair) (range : RangeView) (entry : Entry) (n x y : ℕ) → y < 256 → HoldsPair p entry (x * 256 + y) → Within range n → HoldsPair (written_bytes range p.low) entry (n * 256 + y)
high_put p range entry n x y small h w = let low = h.low in written_bytes_holds range p.low entry n y (omega arith) w (omega arith)

low_put : (p : Pair) (range : RangeView) (entry : Entry) (n x y : ℕ) → y < 256 → n < 256 → HoldsPair p entry (x * 256 + y) → Within range n → HoldsPair (written_bytes p.high range) entry (x * 256 + n)
low_put p range entry n x y small new_small h w = let high = h.high in written_bytes_holds p.high range entry x n (omega arith) (omega arith) w

pairs_put : (r : Register8) (range : RangeView) (n : ℕ) (p : Pairs) (entry : Entry) (regs : Regs) → n < 256 → IsRegs regs → Within range n → HoldsPairs p entry regs → HoldsPairs (with_byte_range r range p) entry (regs_with_byte r n regs)
pairs_put A range n q entry regs small i w p = record { af = high_put q.af range entry n regs.main.a regs.main.f i.main.f p.af w; bc = p.bc; de = p.de; hl = p.hl; ix = p.ix; iy = p.iy; alternate_af = p.alternate_af; alternate_bc = p.alternate_bc; alternate_de = p.alternate_de; alternate_hl = p.alternate_hl }
pairs_put B range n q entry regs small i w p = record { af = p.af; bc = high_put q.bc range entry n regs.main.b regs.main.c i.main.c p.bc w; de = p.de; hl = p.hl; ix = p.ix; iy = p.iy; alternate_af = p.alternate_af; alternate_bc = p.alternate_bc; alternate_de = p.alternate_de; alternate_hl = p.alternate_hl }
pairs_put C range n q entry regs small i w p = record { af = p.af; bc = low_put q.bc range entry n regs.main.b regs.main.c i.main.c small p.bc w; de = p.de; hl = p.hl; ix = p.ix; iy = p.iy; alternate_af = p.alternate_af; alternate_bc = p.alternate_bc; alternate_de = p.alternate_de; alternate_hl = p.alternate_hl }
pairs_put D range n q entry regs small i w p = record { af = p.af; bc = p.bc; de = high_put q.de range entry n regs.main.d regs.main.e i.main.e p.de w; hl = p.hl; ix = p.ix; iy = p.iy; alternate_af = p.alternate_af; alternate_bc = p.alternate_bc; alternate_de = p.alternate_de; alternate_hl = p.alternate_hl }
pairs_put E range n q entry regs small i w p = record { af = p.af; bc = p.bc; de = low_put q.de range entry n regs.main.d regs.main.e i.main.e small p.de w; hl = p.hl; ix = p.ix; iy = p.iy; alternate_af = p.alternate_af; alternate_bc = p.alternate_bc; alternate_de = p.alternate_de; alternate_hl = p.alternate_hl }
pairs_put H range n q entry regs small i w p = record { af = p.af; bc = p.bc; de = p.de; hl = high_put q.hl range entry n regs.main.h regs.main.l i.main.l p.hl w; ix = p.ix; iy = p.iy; alternate_af = p.alternate_af; alternate_bc = p.alternate_bc; alternate_de = p.alternate_de; alternate_hl = p.alternate_hl }
pairs_put L range n q entry regs small i w p = record { af = p.af; bc = p.bc; de = p.de; hl = low_put q.hl range entry n regs.main.h regs.main.l i.main.l small p.hl w; ix = p.ix; iy = p.iy; alternate_af = p.alternate_af; alternate_bc = p.alternate_bc; alternate_de = p.alternate_de; alternate_hl = p.alternate_hl }

pub byte_put : (r : Register8) (range : RangeView) (n : ℕ) (s : AbsState) (cells : List KeptCell) (entry : Entry) (m : Seen) → n < 256 → IsRegs m.regs → Within range n → Holds s cells entry m → Holds (put_byte r range s) cells entry (record m { regs = regs_with_byte r n m.regs })
byte_put r range n s cells entry m small i w h = record {
  mode = h.mode;
  cells_hold = h.cells_hold;
  pairs = pairs_put r range n s.pairs entry m.regs small i w h.pairs;
  flag = fact_kept r n s.flag m.regs h.flag;
  shape = h.shape;
}

-- a word is written
whole : (word : ℕ) → word / 256 * 256 + word % 256 ≡ word
whole word = omega arith

parted : (p : Pair) (entry : Entry) (word : ℕ) → HoldsPair p entry word → HoldsPair p entry (word_of (word / 256) (word % 256))
parted p entry word h = subst (λ (n : ℕ). HoldsPair p entry n) (sym (whole word)) h

pairs_put_word : (r : RegPair) (new : Pair) (word : ℕ) (p : Pairs) (entry : Entry) (regs : Regs) → HoldsPair new entry word → HoldsPairs p entry regs → HoldsPairs (with_pair r new p) entry (regs_with_word r word regs)
pairs_put_word Af new word q entry regs k p = record { af = parted new entry word k; bc = p.bc; de = p.de; hl = p.hl; ix = p.ix; iy = p.iy; alternate_af = p.alternate_af; alternate_bc = p.alternate_bc; alternate_de = p.alternate_de; alternate_hl = p.alternate_hl }
pairs_put_word Bc new word q entry regs k p = record { af = p.af; bc = parted new entry word k; de = p.de; hl = p.hl; ix = p.ix; iy = p.iy; alternate_af = p.alternate_af; alternate_bc = p.alternate_bc; alternate_de = p.alternate_de; alternate_hl = p.alternate_hl }
pairs_put_word De new word q entry regs k p = record { af = p.af; bc = p.bc; de = parted new entry word k; hl = p.hl; ix = p.ix; iy = p.iy; alternate_af = p.alternate_af; alternate_bc = p.alternate_bc; alternate_de = p.alternate_de; alternate_hl = p.alternate_hl }
pairs_put_word Hl new word q entry regs k p = record { af = p.af; bc = p.bc; de = p.de; hl = parted new entry word k; ix = p.ix; iy = p.iy; alternate_af = p.alternate_af; alternate_bc = p.alternate_bc; alternate_de = p.alternate_de; alternate_hl = p.alternate_hl }
pairs_put_word Ix new word q entry regs k p = record { af = p.af; bc = p.bc; de = p.de; hl = p.hl; ix = k; iy = p.iy; alternate_af = p.alternate_af; alternate_bc = p.alternate_bc; alternate_de = p.alternate_de; alternate_hl = p.alternate_hl }
pairs_put_word Iy new word q entry regs k p = record { af = p.af; bc = p.bc; de = p.de; hl = p.hl; ix = p.ix; iy = k; alternate_af = p.alternate_af; alternate_bc = p.alternate_bc; alternate_de = p.alternate_de; alternate_hl = p.alternate_hl }
pairs_put_word AlternateAf new word q entry regs k p = record { af = p.af; bc = p.bc; de = p.de; hl = p.hl; ix = p.ix; iy = p.iy; alternate_af = parted new entry word k; alternate_bc = p.alternate_bc; alternate_de = p.alternate_de; alternate_hl = p.alternate_hl }
pairs_put_word AlternateBc new word q entry regs k p = record { af = p.af; bc = p.bc; de = p.de; hl = p.hl; ix = p.ix; iy = p.iy; alternate_af = p.alternate_af; alternate_bc = parted new entry word k; alternate_de = p.alternate_de; alternate_hl = p.alternate_hl }
pairs_put_word AlternateDe new word q entry regs k p = record { af = p.af; bc = p.bc; de = p.de; hl = p.hl; ix = p.ix; iy = p.iy; alternate_af = p.alternate_af; alternate_bc = p.alternate_bc; alternate_de = parted new entry word k; alternate_hl = p.alternate_hl }
pairs_put_word AlternateHl new word q entry regs k p = record { af = p.af; bc = p.bc; de = p.de; hl = p.hl; ix = p.ix; iy = p.iy; alternate_af = p.alternate_af; alternate_bc = p.alternate_bc; alternate_de = p.alternate_de; alternate_hl = parted new entry word k }

pub pair_put : (r : RegPair) (new : Pair) (word : ℕ) (s : AbsState) (cells : List KeptCell) (entry : Entry) (m : Seen) → HoldsPair new entry word → Holds s cells entry m → Holds (put_pair r new s) cells entry (record m { regs = regs_with_word r word m.regs })
pair_put r new word s cells entry m k h = record {
  mode = h.mode;
  cells_hold = h.cells_hold;
  pairs = pairs_put_word r new word s.pairs entry m.regs k h.pairs;
  flag = fact_kept_behind r word s.flag m.regs h.flag;
  shape = h.shape;
}

-- ---- after a call

-- each pair holds
pub held_of : (p : Pairs) (entry : Entry) (regs : Regs) → HoldsPairs p entry regs → (r : RegPair) → HoldsPair (pair_of r p) entry (word_in r regs)
held_of p entry regs h Af = h.af
held_of p entry regs h Bc = h.bc
held_of p entry regs h De = h.de
held_of p entry regs h Hl = h.hl
held_of p entry regs h Ix = h.ix
held_of p entry regs h Iy = h.iy
held_of p entry regs h AlternateAf = h.alternate_af
held_of p entry regs h AlternateBc = h.alternate_bc
held_of p entry regs h AlternateDe = h.alternate_de
held_of p entry regs h AlternateHl = h.alternate_hl

module _ (caller : Pairs) (entry : Entry) (regs : Regs) (held : (r : RegPair) → HoldsPair (pair_of r caller) entry (word_in r regs)) where
  returned_by : (exit : Pair) (word : ℕ) (origin : Option RegPair) → exit.origin ≡ origin → HoldsPair exit (entry_of regs) word → HoldsPair (elim origin as (λ _. Pair) [ Some r ↦ pair_of r caller | None ↦ exit ]) entry word
  returned_by exit word None e h = record { word = h.word; high = h.high; low = h.low; origin = rw e tt }
  returned_by exit word (Some r) e h =
      let same : word ≡ word_in r regs = let o = h.origin in (rw e at o) in
      subst (λ (n : ℕ). HoldsPair (pair_of r caller) entry n) (sym same) (held r)

  returned : (exit : Pair) (word : ℕ) → HoldsPair exit (entry_of regs) word → HoldsPair (returned_pair caller exit) entry word
  returned exit word h = returned_by exit word exit.origin refl h

  pub all_returned : (exit : Pairs) (now : Regs) → HoldsPairs exit (entry_of regs) now → HoldsPairs (returned_pairs caller exit) entry now
  all_returned q now p = record {
    af = returned q.af _ p.af;
    bc = returned q.bc _ p.bc;
    de = returned q.de _ p.de;
    hl = returned q.hl _ p.hl;
    ix = returned q.ix _ p.ix;
    iy = returned q.iy _ p.iy;
    alternate_af = returned q.alternate_af _ p.alternate_af;
    alternate_bc = returned q.alternate_bc _ p.alternate_bc;
    alternate_de = returned q.alternate_de _ p.alternate_de;
    alternate_hl = returned q.alternate_hl _ p.alternate_hl;
  }

pub call_returned : (s exit : AbsState) (cells : List KeptCell) (entry : Entry) (caller m : Seen) → Holds s cells entry caller → Holds exit cells (entry_of caller.regs) m → Holds (after_call s exit) cells entry (record m { words = caller.words })
call_returned s exit cells entry caller m h k = record {
  mode = k.mode;
  cells_hold = k.cells_hold;
  pairs = all_returned s.pairs entry caller.regs (held_of s.pairs entry caller.regs h.pairs) exit.pairs m.regs k.pairs;
  flag = tt;
  shape = h.shape;
}
