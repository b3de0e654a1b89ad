use Rattle.std.proofs.Common.{refl}
use Rattle.check_rules.proofs.WaysOn.{each_fits_depth, fits_depth}
use Rattle.check_rules.proofs.stack.fits_depth.Goals as goal

pub returns-then-row_fits_depth : goal.returns-then-row_fits_depth
returns-then-row_fits_depth c = (
  λ e. fits_depth c.args.subject.now c.args.nexts.now c.requires (c.if-row_fits_depth.ensures.0 refl) (c.all_fit_depth.ensures.0 e),
  λ deep. c.all_fit_depth.ensures.1 (each_fits_depth c.args.subject.now c.args.nexts.now c.requires deep),
)
