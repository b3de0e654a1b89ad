-- The first pair that an exit does not give back (docs/CHECKER.md, "The table of reasons").
use Rattle.std.specs.Prelude.{◌≡◌, List, Option, Some, None, Contains}
use Rattle.std.specs.List.{All}
use Rattle.abs_step.specs.declared.next.Next.{Next}
use Rattle.abs_step.specs.declared.next.NextKind.TheVariants.{Exit}
use Rattle.intervals.specs.declared.reg_pair.RegPair.{RegPair}
use Rattle.nmi_saves.specs.Lost.{IsFirstLost}

-- a successor is no exit, or gives each pair back
abbrev pub GivesAllBack : Next → Type 0
GivesAllBack next = next.kind ≡ Exit → (pair : RegPair) → IsFirstLost next.state pair → ⊥

-- a successor is an exit, and this is the first pair that it does not give back
pub record Loses (next : Next) (pair : RegPair) : Type 0 where
  pub kind : next.kind ≡ Exit
  pub first : IsFirstLost next.state pair

-- the first pair that a successor does not give back, or none
abbrev pub LosesTo : Next → Option RegPair → Type 0
LosesTo next None = GivesAllBack next
LosesTo next (Some pair) = Loses next pair

-- a pair that some exit among the successors is the first not to give back; or none, where each gives all back
abbrev pub LosesAmong : List Next → Option RegPair → Type 0
LosesAmong nexts None = All GivesAllBack nexts
LosesAmong nexts (Some pair) = (next : Next) × Contains nexts next × Loses next pair
