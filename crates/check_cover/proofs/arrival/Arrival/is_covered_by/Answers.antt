use Rattle.std.proofs.Common.{refl}
use Rattle.check_cover.proofs.RowLemmas.{covers_without_facts}
use Rattle.check_cover.proofs.arrival.Arrival.is_covered_by.Goals as goal

pub returns-then-is_plain : goal.returns-then-is_plain
returns-then-is_plain c =
    let bare = c.if-is_plain.ensures.0 refl in
    covers_without_facts c.args.self.now c.args.state.now c.args.row.now c.covers_state.result bare.0 bare.1 c.covers_state.ensures
