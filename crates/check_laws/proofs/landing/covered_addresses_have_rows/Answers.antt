use Rattle.check_laws.proofs.LandingLemmas.{has_row}
use Rattle.check_laws.proofs.landing.covered_addresses_have_rows.Goals as goal

pub returns : goal.returns
returns c = λ cert a state entry regs numbers h covered. has_row cert a state entry regs numbers h covered
