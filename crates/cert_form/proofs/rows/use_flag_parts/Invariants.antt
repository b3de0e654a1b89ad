use Rattle.std.proofs.Common.{List}
use Rattle.cert_form.specs.Rows.{HaveNumbers}
use Rattle.cert_form.proofs.MappedLemmas.{Told}
use Rattle.stack_shape.specs.declared.slot.Slot.{Slot}
use Rattle.cert_form.proofs.rows.use_flag_parts.Given as goal

abbrev pub invariant-loop-row : goal.invariant-loop-row
invariant-loop-row l = (shapes : List (List Slot)) → HaveNumbers shapes l.fn.stored l.fn.rows → Told shapes l.fn.stored l.stored l.fn.rows l.rows l.row-index
