use Rattle.check_laws.proofs.ReturnLemmas.{restart_leads, way_leads}
use Rattle.check_laws.proofs.returns.ways_lead_to_a_row.Goals as goal

pub returns-clause-goes_on : goal.returns-clause-goes_on
returns-clause-goes_on c = way_leads

pub returns-clause-restarts : goal.returns-clause-restarts
returns-clause-restarts c = restart_leads
