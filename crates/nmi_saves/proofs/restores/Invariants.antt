use Rattle.std.proofs.Common.{◌<◌}
use Rattle.intervals.specs.declared.reg_pair.RegPair.{RegPair as Name}
use Rattle.intervals.specs.RegPair.{place_of_pair}
use Rattle.nmi_saves.specs.Lost.{IsRestored}
use Rattle.nmi_saves.proofs.restores.Given as goal

-- the pairs so far are restored
abbrev pub invariant-loop-pair : goal.invariant-loop-pair
invariant-loop-pair l = (pair : Name) → place_of_pair pair < l.pair-index → IsRestored l.state pair
