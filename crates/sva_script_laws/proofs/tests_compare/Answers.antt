use Rattle.sva_script_laws.proofs.Replaying.{none_is_skipped, tests_compare, tests_pass}
use Rattle.sva_script_laws.proofs.tests_compare.Goals as goal

pub returns-clause-compares : goal.returns-clause-compares
returns-clause-compares c = tests_compare

pub returns-clause-passes : goal.returns-clause-passes
returns-clause-passes c = tests_pass

pub returns-clause-all : goal.returns-clause-all
returns-clause-all c = none_is_skipped
