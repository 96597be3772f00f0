use Rattle.sva_script_laws.proofs.RacesEnded.{ends_are_there, none_is_endless}
use Rattle.sva_script_laws.proofs.RacesLowered.{each_act_lowers, lines_are_taken_once}
use Rattle.sva_script_laws.proofs.ends.each_race_ends.Goals as goal

pub returns-clause-lines : goal.returns-clause-lines
returns-clause-lines c = lines_are_taken_once

pub returns-clause-lowers : goal.returns-clause-lowers
returns-clause-lowers c = each_act_lowers

pub returns-clause-endless : goal.returns-clause-endless
returns-clause-endless c = none_is_endless

pub returns-clause-ends : goal.returns-clause-ends
returns-clause-ends c = ends_are_there
