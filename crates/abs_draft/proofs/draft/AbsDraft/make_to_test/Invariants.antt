use Rattle.std.proofs.Common.{◌≡◌, drop}
use Rattle.abs_draft.specs.Outcomes.{after_moves, before_test, test_of, behind_test}
use Rattle.abs_draft.proofs.draft.AbsDraft.make_to_test.Given as goal

abbrev pub invariant-loop-place : goal.invariant-loop-place
invariant-loop-place l =
    (after_moves l.ground l.inline (before_test (drop l.place l.moves)) l.self ≡ after_moves l.ground l.inline (before_test l.moves) l.fn.self)
    × (test_of (drop l.place l.moves) ≡ test_of l.moves)
    × (behind_test (drop l.place l.moves) ≡ behind_test l.moves)
