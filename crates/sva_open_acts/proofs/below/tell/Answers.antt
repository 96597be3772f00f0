use Rattle.std.proofs.Common.{rules}
use Rattle.std.proofs.lemmas.List.Edits.{map_over_more}
use Rattle.sva_open.specs.Below.{left_at}
use Rattle.sva_open_acts.proofs.below.tell.Goals as goal

pub loop-place-preserved : goal.loop-place-preserved
loop-place-preserved c = search (rules, map_over_more (left_at c.args.units.now c.args.endpoint c.args.act.now c.args.head c.args.after.now))
