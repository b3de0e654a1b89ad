use Rattle.std.proofs.Common.{sym}
use Rattle.check_tables.proofs.widening.is_widened.Goals as goal

pub returns-then-widens : goal.returns-then-widens
returns-then-widens c = λ e. record {
  wide = c.wide-item.result;
  listed = (c.loop-wide.wide-index, c.loop-wide-test.true, sym c.wide-item.is);
  over = c.widens.ensures.0 c.if-widens.true;
}
