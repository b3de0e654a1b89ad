use Rattle.std.proofs.Common.{◌≡◌, drop}
use Rattle.abs_draft.specs.Outcomes.{after_moves}
use Rattle.abs_draft.proofs.draft.AbsDraft.make_all.Given as goal

abbrev pub invariant-loop-step : goal.invariant-loop-step
invariant-loop-step l =
    after_moves l.ground l.inline (drop l.step-index l.moves) l.self ≡ after_moves l.ground l.inline l.moves l.fn.self
