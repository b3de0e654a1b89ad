use Rattle.abs_laws.proofs.Lists.{none_behind, without_test, with_test, parts_of_list}
use Rattle.abs_laws.proofs.outcomes.lists_go_by_their_test.Goals as goal

pub returns-clause-all : goal.returns-clause-all
returns-clause-all c = none_behind

pub returns-clause-without : goal.returns-clause-without
returns-clause-without c = without_test

pub returns-clause-with_test : goal.returns-clause-with_test
returns-clause-with_test c = with_test

pub returns-clause-parts : goal.returns-clause-parts
returns-clause-parts c = parts_of_list
