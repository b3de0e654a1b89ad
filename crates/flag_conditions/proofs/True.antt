-- The conditions of an instruction are true.
use Rattle.std.proofs.Common.{◌≡◌, ℕ, Bool, true, false, cond, not, List, [], ◌∷◌, Option, Some, None, length, refl, sym, subst, pos, negsuc, ◌-ℤ◌, unsigned_abs}
use Rattle.std.specs.Prelude.{IsTrue, ◌↔◌, ◌<ℤ◌, IfSome, nat_le, option_map}
use Rattle.std.specs.List.{All, filter_map, cons_option}
use Rattle.std.proofs.lemmas.List.Elements.{All-nil, All-cons, All-head, All-tail, All-append}
use Rattle.intervals.specs.Range.{RangeView}
use Rattle.loop_bounds.specs.Effect.{Valuation, whole}
use Rattle.loop_bounds.specs.Linear.{LinearView, value}
use Rattle.z80_alu.specs.Flags.{flags_of}
use Rattle.z80_alu.specs.declared.flags.Flags.{Flags}
use Rattle.z80_alu.specs.declared.regs.Regs.{Regs}
use Rattle.z80_decode.specs.Spelling.{spelling}
use Rattle.z80_decode.specs.declared.instr.Instr.{Instr}
use Rattle.z80_decode.specs.declared.instr.Instr.TheVariants.{ComplementCarry}
use Rattle.z80_draft.specs.Draft.{draft_of, draft_on, drafted, past}
use Rattle.z80_draft.specs.Outside.{Outside}
use Rattle.z80_moves.specs.Moves.{moves_of}
use Rattle.abs_state.specs.Variables.{value_in}
use Rattle.flag_parts.specs.Parts.{HoldsPart, HoldsParts, flag_of, IsSetAt}
use Rattle.flag_letters.specs.declared.letter.Letter.{Letter}
use Rattle.flag_letters.specs.declared.letter.Letter.TheVariants as letters
use Rattle.flag_letters.specs.declared.part.FlagPart.{FlagPart}
use Rattle.flag_conditions.specs.OtherSide.{with_negated}
use Rattle.flag_conditions.specs.Conditions.{StepConditionsView, carried, carry_part_turned, conditions_of, turned_by, AreTrue}
use Rattle.flag_conditions.specs.FlagChanges.{changes_of, leaves}
use Rattle.flag_conditions.specs.NewConditions.{carry_if_below, new_before}
use Rattle.flag_conditions.proofs.OtherSides.{other_side_below}
use Rattle.flag_conditions.proofs.EachInstruction.{each_before, each_after}
use Rattle.flag_conditions.proofs.KeptFlags.{carry_turned, left_alone}

-- the part of C that says the opposite holds where C is turned
turned_holds : (s : LinearView) (f g : Flags) (x : Valuation) → g.carry ≡ not f.carry → HoldsPart (carry_if_below s) f x → IfSome (carry_part_turned letters.CarryIfBelow s) (λ q. HoldsPart q g x)
turned_holds s f g x e h =
    let other : IsTrue (not f.carry) ↔ (value (whole x) (with_negated (negsuc 0 -ℤ s.constant) s.terms) <ℤ pos 0) = other_side_below (whole x) s f.carry h in
    let there : HoldsPart (carry_if_below (with_negated (negsuc 0 -ℤ s.constant) s.terms)) g x = subst (λ (b : Bool). IsTrue b ↔ (value (whole x) (with_negated (negsuc 0 -ℤ s.constant) s.terms) <ℤ pos 0)) (sym e) other in
    if_small (nat_le (unsigned_abs (negsuc 0 -ℤ s.constant)) 1000000000) there
  where
    if_small : (b : Bool) → HoldsPart (carry_if_below (with_negated (negsuc 0 -ℤ s.constant) s.terms)) g x → IfSome (option_map carry_if_below (cond b (Some (with_negated (negsuc 0 -ℤ s.constant) s.terms)) None)) (λ q. HoldsPart q g x)
    if_small true p = p
    if_small false p = tt

turned_part : (part : FlagPart) (f g : Flags) (x : Valuation) → g.carry ≡ not f.carry → HoldsPart part f x → IfSome (carry_part_turned part.letter part.linear) (λ q. HoldsPart q g x)
turned_part part f g x e = at part.letter part.linear
  where
    at : (letter : Letter) (s : LinearView) → HoldsPart (record { letter = letter; linear = s }) f x → IfSome (carry_part_turned letter s) (λ q. HoldsPart q g x)
    at letters.CarryIfBelow s h = turned_holds s f g x e h
    at letters.Zero s h = tt
    at letters.ZeroIfBelow s h = tt
    at letters.SignIfBelow s h = tt

turned_by_hold : (o : Outside) (n : ℕ) (regs : Regs) (x : Valuation) (instr : Instr) (part : FlagPart) → HoldsPart part (flags_of regs.main.f) x
    → IfSome (turned_by instr part) (λ q. HoldsPart q (flags_of (drafted o (moves_of instr) (draft_on (past n regs))).regs.main.f) x)
turned_by_hold o n regs x ComplementCarry part h = turned_part part (flags_of regs.main.f) _ x (carry_turned o n regs) h
turned_by_hold o n regs x instr part h = tt

cons_holds : (P : FlagPart → Type 0) (o : Option FlagPart) (ps : List FlagPart) → IfSome o P → All P ps → All P (cons_option o ps)
cons_holds P None ps h rest = rest
cons_holds P (Some p) ps h rest = All-cons P p ps h rest

-- parts whose flags stay as they are, or are turned, hold after as before
carried_hold : (instr : Instr) (f g : Flags) (x : Valuation) → ((letter : Letter) → leaves (changes_of instr) letter ≡ true → flag_of letter g ≡ flag_of letter f) → ((part : FlagPart) → HoldsPart part f x → IfSome (turned_by instr part) (λ q. HoldsPart q g x))
    → (parts : List FlagPart) → HoldsParts parts f x → HoldsParts (filter_map (carried instr) parts) g x
carried_hold instr f g x keep turn [] h = All-nil (λ part. HoldsPart part g x)
carried_hold instr f g x keep turn (p ∷ ps) h =
    let rest = carried_hold instr f g x keep turn ps (All-tail (λ part. HoldsPart part f x) p ps h) in
    let first = All-head (λ part. HoldsPart part f x) p ps h in
    let at : (b : Bool) → leaves (changes_of instr) p.letter ≡ b → HoldsParts (cons_option (cond b (Some p) (turned_by instr p)) (filter_map (carried instr) ps)) g x =
    elim [
      | true ↦ λ e.
          All-cons (λ part. HoldsPart part g x) p (filter_map (carried instr) ps)
          (subst (λ (b : Bool). IsTrue b ↔ IsSetAt p.letter (value (whole x) p.linear)) (sym (keep p.letter e)) first) rest
      | false ↦ λ e. cons_holds (λ part. HoldsPart part g x) (turned_by instr p) (filter_map (carried instr) ps) (turn p first) rest
    ] in
    at (leaves (changes_of instr) p.letter) refl

pub conditions_true : (instr : Instr) (byte : RangeView) (parts : List FlagPart) (carry : Option Bool) → AreTrue (conditions_of instr byte parts carry) instr byte parts carry
unfolding AreTrue
conditions_true instr byte parts carry o m k = record {
  before =
      All-append (λ part. HoldsPart part (flags_of (draft_of o m.regs instr).regs.main.f) (value_in m)) (filter_map (carried instr) parts) (new_before instr byte carry)
      (carried_hold instr (flags_of m.regs.main.f) (flags_of (draft_of o m.regs instr).regs.main.f) (value_in m) (left_alone o (length (spelling instr)) m.regs instr)
      (turned_by_hold o (length (spelling instr)) m.regs (value_in m) instr) parts k.parts_hold)
      (each_before o m k.regs byte carry k.carry_is (length (spelling instr)) instr k.operand_byte k.operand_within);
  after = each_after o m k.regs byte carry k.carry_is (length (spelling instr)) instr k.operand_byte k.operand_within;
}

-- conditions that are those of the table
pub table_true : (conditions : StepConditionsView) (instr : Instr) (byte : RangeView) (parts : List FlagPart) (carry : Option Bool) → conditions ≡ conditions_of instr byte parts carry → AreTrue conditions instr byte parts carry
table_true conditions instr byte parts carry e = subst (λ (c : StepConditionsView). AreTrue c instr byte parts carry) (sym e) (conditions_true instr byte parts carry)
