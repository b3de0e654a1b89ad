use Rattle.std.proofs.Common.{Some}
use Rattle.cert_fields.proofs.linear.potential_field.Goals as goal

pub returns-in-TooMany : goal.returns-in-TooMany
returns-in-TooMany c = let (s, form, long, is) = rw c.in-TooMany.is at c.in_ok-linear.ensures in (Some s, form, long, is)
