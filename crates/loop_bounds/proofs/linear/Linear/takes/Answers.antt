use Rattle.std.proofs.Common.{rules}
use Rattle.loop_bounds.proofs.LinearLemmas.{extended_from, extended_gives, room_below}
use Rattle.loop_bounds.proofs.linear.Linear.takes.Goals as goal

pub returns : goal.returns
returns c =
    let s = c.args.self.now in
    let room = room_below s _ _ _ c.self.invariant c.self.view_is c.if-self-eq3.false in (
      λ t. extended_from s c.args.term.now c.terms.ensures.linear room (search rules) (search rules),
      λ l. let gives = extended_gives s c.args.term.now l in search rules,
    )
