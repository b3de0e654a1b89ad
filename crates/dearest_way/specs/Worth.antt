-- What the potential of a row comes to where a way enters it.
use Rattle.std.specs.Prelude.{ℕ, ◌<◌, ◌-◌, ◌≡◌, pos, List, [], ◌∷◌, Option, Some, None, IfSome, slice_get}
use Rattle.abs_state.specs.Variables.{range_of}
use Rattle.abs_state.specs.declared.state.AbsState.{AbsState}
use Rattle.cert_lines.specs.declared.row.Row.{Row}
use Rattle.cert_form.specs.Contents.{CertificateView}
use Rattle.check_ways.specs.Pays.{constant_sum, potential_of}
use Rattle.intervals.specs.Range.{RangeView, intersection}
use Rattle.loop_bounds.specs.Bounds.{Decreases}
use Rattle.loop_bounds.specs.Effect.{unchanged}
use Rattle.loop_bounds.specs.Linear.{LinearView}
use Rattle.loop_bounds.specs.Ranges.{Box}
use Rattle.loop_bounds.specs.declared.linear.Term.{Term}
use Rattle.dearest_way.specs.Arrivals.{ArrivesFrom}
use Rattle.dearest_way.specs.declared.parts.LoopTurns.{LoopTurns}

-- the first range, if the second is not there
abbrev pub or_own : RangeView → Option RangeView → RangeView
or_own own None = own
or_own own (Some both) = both

-- the numbers in both ranges; those of the first where there are none
abbrev pub cut_range : RangeView → RangeView → RangeView
cut_range own arriving = or_own own (intersection own arriving)

-- the ranges of a row where a state arrives at it
abbrev pub box_at : AbsState → AbsState → Box
box_at own arriving v = cut_range (range_of own v) (range_of arriving v)

-- over the box a potential comes to at most this many T-states
abbrev pub IsBound : Box → LinearView → ℕ → Type 0
IsBound box potential most = Decreases (constant_sum most) potential 0 unchanged box box

-- and not always to one fewer
abbrev pub IsLeast : Box → LinearView → ℕ → Type 0
IsLeast box potential most = 0 < most → IsBound box potential (most - 1) → ⊥

-- over the box a potential comes to this many T-states at most
pub record IsMost (box : Box) (potential : LinearView) (most : ℕ) : Type 0 where
  pub bound : IsBound box potential most
  pub least : IsLeast box potential most

-- the terms are one variable, the counter of turns: each turn has this many T-states, and the counter is at most this in
-- the box
abbrev pub CountTurns : Box → List Term → LoopTurns → Type 0
CountTurns box (term ∷ []) turns = (term.coefficient ≡ pos turns.cost) × (turns.count ≡ (box term.variable).high)
CountTurns box terms turns = ⊥

-- the potential is a constant and so many T-states for each turn
abbrev pub AreTurns : Box → LinearView → LoopTurns → Type 0
AreTurns box potential turns = CountTurns box potential.terms turns

-- the state that arrives at a row from the row before it on the way, or the row's own at the entry of the procedure
abbrev pub IsArriving : List ℕ → CertificateView → Option ℕ → ℕ → Row → AbsState → Type 0
IsArriving rom cert None row target arriving = arriving ≡ target.state
IsArriving rom cert (Some from) row target arriving = ArrivesFrom rom cert from row arriving

-- where a way enters a row, the row's potential comes to this many T-states, and pays for these turns
pub record IsWorth (rom : List ℕ) (cert : CertificateView) (before : Option ℕ) (row most : ℕ) (turns : Option LoopTurns) : Type 0 where
  pub target : Row
  pub is : slice_get cert.rows row ≡ Some target
  pub arriving : AbsState
  pub arrives : IsArriving rom cert before row target arriving
  pub most_is : IsMost (box_at target.state arriving) (potential_of target) most
  pub turns_are : IfSome turns (AreTurns (box_at target.state arriving) (potential_of target))
