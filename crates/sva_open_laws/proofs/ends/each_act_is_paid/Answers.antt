use Rattle.sva_open_laws.proofs.WorldsPaid.{answers_are_free, each_act_is_paid}
use Rattle.sva_open_laws.proofs.ends.each_act_is_paid.Goals as goal

pub returns-clause-acts : goal.returns-clause-acts
returns-clause-acts c = each_act_is_paid

pub returns-clause-answers : goal.returns-clause-answers
returns-clause-answers c = answers_are_free
