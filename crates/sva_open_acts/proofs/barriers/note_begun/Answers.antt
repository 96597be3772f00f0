use Rattle.std.proofs.Common.{rules}
use Rattle.std.proofs.lemmas.List.Edits.{map_over_more}
use Rattle.sva_open.specs.Devices.{begun_noted}
use Rattle.sva_open_acts.proofs.barriers.note_begun.Goals as goal

pub loop-group-preserved : goal.loop-group-preserved
loop-group-preserved c = search (rules, map_over_more (begun_noted c.args.barrier.now))
