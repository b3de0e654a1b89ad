use Rattle.std.proofs.Common.{◌≡◌, ◌≤◌, ◌+◌, length, drop}
use Rattle.z80_draft.specs.Draft.{drafted}
use Rattle.z80_draft.specs.Room.{writes_in, accesses_in}
use Rattle.z80_draft.proofs.draft.Draft.make_all.Given as goal

-- the moves left, applied to the draft so far, give what all moves make of the first draft, and there is room for them
abbrev pub invariant-loop-step : goal.invariant-loop-step
invariant-loop-step g l = record {
  rest : drafted (g.B.Bus.outside l.bus) (drop l.step-index l.step-items) l.self ≡ drafted (g.B.Bus.outside l.bus) l.step-items l.fn.self;
  writes : length l.self.writes + writes_in (drop l.step-index l.step-items) ≤ 2;
  stack : length l.self.stack + accesses_in (drop l.step-index l.step-items) ≤ 2;
}
