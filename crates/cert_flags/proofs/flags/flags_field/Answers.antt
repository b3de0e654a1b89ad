use Rattle.std.proofs.Common.{None, refl}
use Rattle.cert_flags.specs.Flags.{flags_with}
use Rattle.cert_flags.proofs.flags.flags_field.Goals as goal

pub returns-in-TooMany : goal.returns-in-TooMany
returns-in-TooMany c =
    let (parts, form, many, is) = rw c.in-TooMany.is at c.in_ok-read-in-Parts.ensures in
    rw c.in-Parts.is (flags_with None parts, (refl, form), many, is)
