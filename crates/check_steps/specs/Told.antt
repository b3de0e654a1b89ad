-- What the refined step adds to an arrival (docs/CHECKER.md, "The refined step").
use Rattle.std.specs.Prelude.{Option, Some, None}
use Rattle.check_cover.specs.Arrival.{RefinementView}
use Rattle.cert_lines.specs.declared.version.Version.{Version}
use Rattle.cert_lines.specs.declared.version.Version.TheVariants.{One, Two, Three}
use Rattle.loop_bounds.specs.declared.effect.Effect.{Effect}
use Rattle.refined_step.specs.Told.{StepToldView}

-- what an arrival has beside its effect: in version 3 what the step says and the effect without priority for constants
abbrev pub refinement_by : Version → StepToldView → Effect → Option RefinementView
refinement_by One told moved = None
refinement_by Two told moved = None
refinement_by Three told moved = Some (record { moved = moved; linear = told.linear; conditions = told.conditions })
