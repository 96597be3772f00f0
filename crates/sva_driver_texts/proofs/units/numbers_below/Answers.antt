use Rattle.std.proofs.Common.{◌∙◌}
use Rattle.sva_driver_texts.proofs.UnitNumbers.{more, none}
use Rattle.sva_driver_texts.proofs.units.numbers_below.Goals as goal

pub loop-endpoint-init : goal.loop-endpoint-init
loop-endpoint-init c = c.new-units.ensures.items ∙ none

pub loop-endpoint-preserved : goal.loop-endpoint-preserved
loop-endpoint-preserved c = c.in_ok-push.ensures.items ∙ more c.loop-endpoint.endpoint c.loop-endpoint.units.items c.loop-endpoint.invariant
