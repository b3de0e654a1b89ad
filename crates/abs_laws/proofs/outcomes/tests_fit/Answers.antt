use Rattle.abs_laws.proofs.Tests.{test_fits, test_fits_taken, taken_fits, test_tells_the_same}
use Rattle.abs_laws.proofs.outcomes.tests_fit.Goals as goal

pub returns-clause-left : goal.returns-clause-left
returns-clause-left c = test_fits

pub returns-clause-marked : goal.returns-clause-marked
returns-clause-marked c = test_fits_taken

pub returns-clause-taken : goal.returns-clause-taken
returns-clause-taken c = taken_fits

pub returns-clause-kept : goal.returns-clause-kept
returns-clause-kept c = test_tells_the_same
