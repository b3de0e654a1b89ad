use Rattle.cert_flags.proofs.PartsLemmas.{parts_within, within_parts}
use Rattle.cert_flags.proofs.parts_values.parts_stay_within.Goals as goal

pub returns : goal.returns
returns c =
    let parts = c.args.parts.now in (
      λ yes. parts_within 64 c.args.slots parts c.are_parts.ensures.form (c.name_slots_below.ensures.0 yes),
      λ form. c.name_slots_below.ensures.1 (within_parts c.args.slots parts form),
    )
