use Rattle.std.proofs.Common.{rules}
use Rattle.std.proofs.lemmas.List.Edits.{map_over_more}
use Rattle.sva_open.specs.Devices.{over}
use Rattle.sva_open_acts.proofs.controls.end_requests.Goals as goal

pub loop-request-preserved : goal.loop-request-preserved
loop-request-preserved c = search (rules, map_over_more over)
