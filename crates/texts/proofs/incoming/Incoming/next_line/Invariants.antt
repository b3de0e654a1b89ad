use Rattle.std.proofs.Common.{◌≡◌, ◌-◌, ◌++◌, IsTrue, length}
use Rattle.texts.specs.Device.{Gives}
use Rattle.texts.specs.Incoming.{EndsWell, HasNoFeed, IsEnough, unread_of}
use Rattle.texts.proofs.incoming.Incoming.next_line.Given as goal

-- the line so far was taken, and no read has failed
abbrev pub invariant-loop-byte : goal.invariant-loop-byte
invariant-loop-byte g l = record {
  given : Gives (unread_of l.fn.self (g.R.Source.state l.fn.input)) l.line.items (unread_of l.self (g.R.Source.state l.input));
  no_feed : HasNoFeed l.line.items;
  quiet : IsEnough g.row.LONGEST l.fn.self.bytes (IsTrue l.fn.self.ended) → (l.input ≡ l.fn.input) × (l.self.ended ≡ l.fn.self.ended) × (l.fn.self.bytes ≡ l.line.items ++ l.self.bytes);
  at_end : EndsWell l.fn.self (g.R.Source.state l.fn.input) → EndsWell l.self (g.R.Source.state l.input);
}

abbrev pub decreases-loop-byte : goal.decreases-loop-byte
decreases-loop-byte g l = g.row.LONGEST - length l.line.items
