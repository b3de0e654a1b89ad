-- Narrowing: what a condition and the parts of a row leave of its ranges (docs/CHECKER.md, "Narrowing by parts").
use Rattle.std.specs.Prelude.{◌≡◌, ◌≢◌, List, [], ◌∷◌, if◌then◌else◌, Option, Some, None, option_and_then, ℤ, pos}
use Rattle.linear_limits.specs.Limit.{IsOnSide, limited}
use Rattle.linear_limits.specs.declared.limiting.SideOfZero.TheVariants.{Below, NotBelow}
use Rattle.loop_bounds.specs.Linear.{LinearView}
use Rattle.loop_bounds.specs.Tighten.{tightened}
use Rattle.loop_bounds.specs.declared.linear.Term.{Term}
use Rattle.z80_decode.specs.declared.kinds.Condition.{Condition}
use Rattle.z80_decode.specs.declared.kinds.Condition.TheVariants as conditions
use Rattle.abs_state.specs.Variables.{range_of, cut_to}
use Rattle.abs_state.specs.declared.state.AbsState.{AbsState}
use Rattle.flag_letters.specs.declared.letter.Letter.{Letter}
use Rattle.flag_letters.specs.declared.letter.Letter.TheVariants as letters
use Rattle.flag_parts.specs.declared.narrowing.ZeroTest.{ZeroTest}
use Rattle.flag_parts.specs.declared.narrowing.ZeroTest.TheVariants.{IsZero, IsNotZero, LiesOn}
use Rattle.flag_letters.specs.declared.part.FlagPart.{FlagPart}
use Rattle.flag_parts.specs.Excluding.{is_none, not_zero}

-- what a met condition says of the linear of a part with this letter
abbrev pub said : Letter → Condition → Option ZeroTest
said letters.Zero conditions.Zero = Some IsZero
said letters.Zero conditions.NotZero = Some IsNotZero
said letters.ZeroIfBelow conditions.Zero = Some (LiesOn Below)
said letters.ZeroIfBelow conditions.NotZero = Some (LiesOn NotBelow)
said letters.CarryIfBelow conditions.Carry = Some (LiesOn Below)
said letters.CarryIfBelow conditions.NotCarry = Some (LiesOn NotBelow)
said letters.SignIfBelow conditions.Minus = Some (LiesOn Below)
said letters.SignIfBelow conditions.Plus = Some (LiesOn NotBelow)
said _ _ = None

-- the value of the linear is as said
abbrev pub IsAsSaid : ZeroTest → ℤ → Type 0
IsAsSaid IsZero n = n ≡ pos 0
IsAsSaid IsNotZero n = n ≢ pos 0
IsAsSaid (LiesOn side) n = IsOnSide side n

-- the state where the linear is 0; a linear without terms is its constant
abbrev pub zero_by : List Term → LinearView → AbsState → Option AbsState
zero_by [] linear s = if is_none linear.constant then Some s else None
zero_by (t ∷ ts) linear s = tightened range_of cut_to linear s

abbrev pub at_zero : LinearView → AbsState → Option AbsState
at_zero linear s = zero_by linear.terms linear s

-- the state where the linear is as said; none if nothing is left
abbrev pub narrowed_by : ZeroTest → LinearView → AbsState → Option AbsState
narrowed_by IsZero linear s = at_zero linear s
narrowed_by IsNotZero linear s = not_zero linear s
narrowed_by (LiesOn side) linear s = limited range_of cut_to side linear s

-- nothing that is said narrows nothing
abbrev pub narrowed_if_said : Option ZeroTest → LinearView → AbsState → Option AbsState
narrowed_if_said None linear s = Some s
narrowed_if_said (Some what) linear s = narrowed_by what linear s

-- the state narrowed by one part, where the condition is met
abbrev pub narrowed_by_part : Condition → FlagPart → AbsState → Option AbsState
narrowed_by_part condition part s = narrowed_if_said (said part.letter condition) part.linear s

-- the state narrowed by the parts in their order, where the condition is met; none if nothing is left
abbrev pub narrowed : Condition → List FlagPart → AbsState → Option AbsState
narrowed condition [] s = Some s
narrowed condition (part ∷ parts) s = option_and_then (narrowed condition parts) (narrowed_by_part condition part s)
