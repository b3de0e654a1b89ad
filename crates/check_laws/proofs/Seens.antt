-- What a row says depends only on the pairs, the words, the cells and the mode.
use Rattle.std.proofs.Common.{◌≡◌, ◌≢◌, ◌≤◌, ◌∙◌, ℕ, zero, suc, Bool, List, [], ◌∷◌, get_or, Option, Some, None, pos, refl, sym, ap, subst, arith}
use Rattle.std.specs.Prelude.{◌+ℤ◌, ◌↔◌, IsTrue, ℤ}
use Rattle.flag_letters.specs.declared.part.FlagPart.{FlagPart}
use Rattle.flag_parts.specs.Parts.{AreSeen, HoldsPart, IsSetAt, flag_of}
use Rattle.intervals.specs.Domain.{Entry}
use Rattle.intervals.specs.Pair.{HoldsPair}
use Rattle.loop_bounds.specs.Effect.{whole}
use Rattle.loop_bounds.specs.Linear.{LinearView}
use Rattle.loop_bounds.specs.declared.variable.Variable.{Variable}
use Rattle.loop_bounds.specs.declared.variable.Variable.TheVariants as variables
use Rattle.loop_bounds.proofs.Boxes.{total_agree}
use Rattle.stack_shape.specs.Shape.{HoldsShape}
use Rattle.z80_alu.specs.Flags.{flags_of}
use Rattle.z80_alu.specs.Word.{word_of}
use Rattle.z80_alu.specs.declared.regs.Regs.{Regs}
use Rattle.z80_alu.specs.declared.regs.RegisterSet.{RegisterSet}
use Rattle.z80_decode.specs.declared.operands.Register8.TheVariants.{A, B, C, D, E, H, L}
use Rattle.abs_state.specs.Cell.{HoldsCells}
use Rattle.abs_state.specs.Fact.{HoldsFact}
use Rattle.abs_state.specs.Holds.{HoldsMode, IsQuiet}
use Rattle.abs_state.specs.Pairs.{HoldsPairs}
use Rattle.abs_state.specs.Seen.{Seen}
use Rattle.abs_state.specs.Variables.{part_of, value_in}
use Rattle.abs_state.specs.declared.cell.KeptCell.{KeptCell}
use Rattle.abs_state.specs.declared.fact.FlagFact.{FlagFact}
use Rattle.abs_state.specs.declared.fact.FlagFact.TheVariants.{Compared, Zero}
use Rattle.abs_state.specs.declared.mode.Mode.{Mode}
use Rattle.abs_state.specs.declared.mode.Mode.TheVariants.{Nmi, Set, Unset}
use Rattle.abs_state.specs.declared.pairs.Pairs.{Pairs}
use Rattle.cert_lines.specs.declared.row.Row.{Row}
use Rattle.check_laws.specs.RowHolds.{RowHolds, value_at}

-- ---- modes

pub remode : (m : Mode) (enable line latched : Bool) → (m ≢ Nmi → IsQuiet enable line latched) → HoldsMode m enable line latched
remode Unset enable line latched q = q (λ e. cc)
remode Set enable line latched q = q (λ e. cc)
remode Nmi enable line latched q = tt

pub quiet_of : (m : Mode) (enable line latched : Bool) → m ≢ Nmi → HoldsMode m enable line latched → IsQuiet enable line latched
quiet_of Unset enable line latched n h = h
quiet_of Set enable line latched n h = h
quiet_of Nmi enable line latched n h = absurd (n refl)

-- the registers of the ten pairs, and the words, are the same
pub record SameView (m n : Seen) : Type 0 where
  pub main : n.regs.main ≡ m.regs.main
  pub alternate : n.regs.alternate ≡ m.regs.alternate
  pub ix : n.regs.ix ≡ m.regs.ix
  pub iy : n.regs.iy ≡ m.regs.iy
  pub words : n.words ≡ m.words

same_pairs : (p : Pairs) (entry : Entry) (m n : Seen) → SameView m n → HoldsPairs p entry m.regs → HoldsPairs p entry n.regs
same_pairs p entry m n e h = record {
  af = subst (λ (k : RegisterSet). HoldsPair p.af entry (word_of k.a k.f)) (sym e.main) h.af;
  bc = subst (λ (k : RegisterSet). HoldsPair p.bc entry (word_of k.b k.c)) (sym e.main) h.bc;
  de = subst (λ (k : RegisterSet). HoldsPair p.de entry (word_of k.d k.e)) (sym e.main) h.de;
  hl = subst (λ (k : RegisterSet). HoldsPair p.hl entry (word_of k.h k.l)) (sym e.main) h.hl;
  ix = subst (λ (k : ℕ). HoldsPair p.ix entry k) (sym e.ix) h.ix;
  iy = subst (λ (k : ℕ). HoldsPair p.iy entry k) (sym e.iy) h.iy;
  alternate_af = subst (λ (k : RegisterSet). HoldsPair p.alternate_af entry (word_of k.a k.f)) (sym e.alternate) h.alternate_af;
  alternate_bc = subst (λ (k : RegisterSet). HoldsPair p.alternate_bc entry (word_of k.b k.c)) (sym e.alternate) h.alternate_bc;
  alternate_de = subst (λ (k : RegisterSet). HoldsPair p.alternate_de entry (word_of k.d k.e)) (sym e.alternate) h.alternate_de;
  alternate_hl = subst (λ (k : RegisterSet). HoldsPair p.alternate_hl entry (word_of k.h k.l)) (sym e.alternate) h.alternate_hl;
}

same_fact : (f : Option FlagFact) (m n : Regs) → n.main ≡ m.main → HoldsFact f m → HoldsFact f n
same_fact None m n e h = tt
same_fact (Some (Zero A)) m n e h = subst (λ (k : RegisterSet). HoldsFact (Some (Zero A)) (record n { main = k })) (sym e) h
same_fact (Some (Zero B)) m n e h = subst (λ (k : RegisterSet). HoldsFact (Some (Zero B)) (record n { main = k })) (sym e) h
same_fact (Some (Zero C)) m n e h = subst (λ (k : RegisterSet). HoldsFact (Some (Zero C)) (record n { main = k })) (sym e) h
same_fact (Some (Zero D)) m n e h = subst (λ (k : RegisterSet). HoldsFact (Some (Zero D)) (record n { main = k })) (sym e) h
same_fact (Some (Zero E)) m n e h = subst (λ (k : RegisterSet). HoldsFact (Some (Zero E)) (record n { main = k })) (sym e) h
same_fact (Some (Zero H)) m n e h = subst (λ (k : RegisterSet). HoldsFact (Some (Zero H)) (record n { main = k })) (sym e) h
same_fact (Some (Zero L)) m n e h = subst (λ (k : RegisterSet). HoldsFact (Some (Zero L)) (record n { main = k })) (sym e) h
same_fact (Some (Compared c)) m n e h = subst (λ (k : RegisterSet). HoldsFact (Some (Compared c)) (record n { main = k })) (sym e) h

same_value : (m n : Seen) → SameView m n → (v : Variable) → value_in n v ≡ value_in m v
same_value m n e variables.A = ap (λ (k : RegisterSet). k.a) e.main
same_value m n e variables.B = ap (λ (k : RegisterSet). k.b) e.main
same_value m n e variables.C = ap (λ (k : RegisterSet). k.c) e.main
same_value m n e variables.D = ap (λ (k : RegisterSet). k.d) e.main
same_value m n e variables.E = ap (λ (k : RegisterSet). k.e) e.main
same_value m n e variables.H = ap (λ (k : RegisterSet). k.h) e.main
same_value m n e variables.L = ap (λ (k : RegisterSet). k.l) e.main
same_value m n e variables.Bc = ap (λ (k : RegisterSet). word_of k.b k.c) e.main
same_value m n e variables.De = ap (λ (k : RegisterSet). word_of k.d k.e) e.main
same_value m n e variables.Hl = ap (λ (k : RegisterSet). word_of k.h k.l) e.main
same_value m n e variables.Ix = e.ix
same_value m n e variables.Iy = e.iy
same_value m n e (variables.Slot number part) = ap (λ (ws : List ℕ). part_of part (get_or ws number 0)) e.words

pub same_linear : (m n : Seen) → SameView m n → (s : LinearView) → value_at n s ≡ value_at m s
same_linear m n e s = ap (λ z. s.constant +ℤ z) (total_agree (whole (value_in n)) (whole (value_in m)) s.terms (λ k d p. ap pos (same_value m n e (get_or s.terms k d).variable)))

-- the flag parts say the same of what looks the same
pub same_parts : (parts : List FlagPart) (m n : Seen) → SameView m n → AreSeen parts m → AreSeen parts n
same_parts parts m n e h = λ k d p.
    let part = get_or parts k d in
    let at_flags : HoldsPart part (flags_of n.regs.main.f) (value_in m) = subst (λ (r : RegisterSet). HoldsPart part (flags_of r.f) (value_in m)) (sym e.main) (h k d p) in
    subst (λ (z : ℤ). IsTrue (flag_of part.letter (flags_of n.regs.main.f)) ↔ IsSetAt part.letter z) (sym (same_linear m n e part.linear)) at_flags

-- a row that holds does so of everything that looks the same to it
pub still_holds : (row : Row) (cells : List KeptCell) (entry : Entry) (m n : Seen) → SameView m n → HoldsMode row.state.mode n.enable n.line n.latched → HoldsCells row.state.armed cells n.cells → RowHolds row cells entry m → RowHolds row cells entry n
still_holds row cells entry m n e mode held h = record {
  state = record {
    mode = mode;
    cells_hold = held;
    pairs = same_pairs row.state.pairs entry m n e h.state.pairs;
    flag = same_fact row.state.flag m.regs n.regs e.main h.state.flag;
    shape = subst (λ (ws : List ℕ). HoldsShape row.state.shape entry ws) (sym e.words) h.state.shape;
  };
  facts = λ k d p. same_linear m n e (get_or row.facts k d) ∙ h.facts k d p;
  parts = same_parts row.parts m n e h.parts;
}

-- if more cells hold, fewer do
pub fewer_hold : (fewer more : ℕ) (cells : List KeptCell) (bytes : List ℕ) → fewer ≤ more → HoldsCells more cells bytes → HoldsCells fewer cells bytes
fewer_hold zero more cells bytes l h = tt
fewer_hold (suc fewer) zero cells bytes l h = absurd (omega arith)
fewer_hold (suc fewer) (suc more) [] [] l h = tt
fewer_hold (suc fewer) (suc more) [] (b ∷ bytes) l h = absurd h
fewer_hold (suc fewer) (suc more) (c ∷ cells) [] l h = absurd h
fewer_hold (suc fewer) (suc more) (c ∷ cells) (b ∷ bytes) l h = (h.0, fewer_hold fewer more cells bytes (omega arith) h.1)
