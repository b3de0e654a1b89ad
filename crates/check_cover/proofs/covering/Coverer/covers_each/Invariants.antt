use Rattle.std.proofs.Common.{◌≡◌, ℕ, ◌<◌, true, IfSome}
use Rattle.abs_state.specs.Restricting.{byte_is}
use Rattle.check_cover.specs.Covering.{SomeCovers}
use Rattle.check_cover.specs.Whole.{IsRemembered}
use Rattle.check_cover.proofs.covering.Coverer.covers_each.Given as goal

-- the state cut to each value so far is covered, and the claims of the row that is remembered are known
abbrev pub invariant-loop-value : goal.invariant-loop-value
invariant-loop-value l =
    (l.self ≡ l.fn.self) × ((value : ℕ) → value < l.value → IfSome (byte_is true l.register value l.state) (SomeCovers l.fn.self l.arrival))
    × IsRemembered l.fn.self l.arrival l.found.known
