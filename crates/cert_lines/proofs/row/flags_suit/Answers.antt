use Rattle.std.proofs.Common.{◌↔◌, IsTrue, subst}
use Rattle.cert_flags.specs.Flags.{AreFlags, flags_with}
use Rattle.cert_lines.proofs.row.flags_suit.Goals as goal

pub returns : goal.returns
returns c =
    subst (λ form. IsTrue c.flags_are_in_form.result ↔ AreFlags form c.args.slots (flags_with c.args.flag c.args.parts.now))
    c.flag_form.ensures c.flags_are_in_form.ensures
