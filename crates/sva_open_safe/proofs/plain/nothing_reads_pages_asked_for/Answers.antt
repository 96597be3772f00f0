use Rattle.sva_open_safe.proofs.PlainWorlds.{act_in, safe_in}
use Rattle.sva_open_safe.proofs.plain.nothing_reads_pages_asked_for.Goals as goal

pub returns-clause-acts : goal.returns-clause-acts
returns-clause-acts c = act_in

pub returns-clause-safe : goal.returns-clause-safe
returns-clause-safe c = safe_in
