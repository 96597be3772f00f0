use Rattle.sva_renumbering.proofs.Stepping as by_step
use Rattle.sva_renumbering.proofs.names_go_on.Goals as goal

pub returns : goal.returns
returns c = record { kept = by_step.names_go_on; sent = by_step.sent_alike; unsent = by_step.unsent_alike }
