use Rattle.std.proofs.Common.{rules}
use Rattle.std.proofs.lemmas.List.Edits.{map_over_more}
use Rattle.sva_open.specs.Devices.{asked_noted}
use Rattle.sva_open_acts.proofs.barriers.note_asked.Goals as goal

pub loop-request-preserved : goal.loop-request-preserved
loop-request-preserved c = search (rules, map_over_more (asked_noted c.args.barrier.now))
