use Rattle.std.proofs.Common.{rules}
use Rattle.std.proofs.lemmas.List.Edits.{map_over_more}
use Rattle.sva_open.specs.Devices.{switched_off}
use Rattle.sva_open_acts.proofs.deliveries.switch_off.Goals as goal

pub loop-row-preserved : goal.loop-row-preserved
loop-row-preserved c = search (rules, map_over_more switched_off)
