use Rattle.std.proofs.Common.{◌≡◌, ◌≤◌, ◌+◌, ◌*◌, ◌++◌, length, take}
use Rattle.std.specs.Fmt.{signed_decimal}
use Rattle.std.specs.List.{flat_map}
use Rattle.cert_fields.specs.Linear.{term_text}
use Rattle.cert_fields.proofs.linear_spelling.add_linear.Given as goal

abbrev pub invariant-loop-term : goal.invariant-loop-term
invariant-loop-term l =
    (l.line ≡ l.fn.line ++ (signed_decimal l.linear.constant ++ flat_map term_text (take l.term-index l.term-items)))
    × (length l.line ≤ length l.fn.line + 11 + 13 * l.term-index)
