use Rattle.check_laws.proofs.LandingLemmas.{lands}
use Rattle.check_laws.proofs.landing.covered_states_land.Goals as goal

pub returns : goal.returns
returns c = λ cert a state entry now form numbers comes h covered. lands cert form a entry now numbers comes state h covered
