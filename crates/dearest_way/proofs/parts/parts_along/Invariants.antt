use Rattle.std.proofs.Common.{◌≡◌, ◌≤◌, length, reverse}
use Rattle.dearest_way.specs.Along.{IsAlong, before_at, first_row}
use Rattle.dearest_way.proofs.parts.parts_along.Given as goal

-- the parts so far follow one another, from the place of the route on
abbrev pub invariant-loop-place : goal.invariant-loop-place
invariant-loop-place l = record {
  within : l.place ≤ length l.route;
  along : IsAlong l.rom l.certificate (before_at l.route l.place) (reverse l.parts.items) l.sum;
  next : l.next ≡ first_row (reverse l.parts.items);
}

abbrev pub decreases-loop-place : goal.decreases-loop-place
decreases-loop-place l = l.place
