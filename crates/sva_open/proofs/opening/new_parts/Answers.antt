use Rattle.std.proofs.Common.{◌∙◌, ap, arith}
use Rattle.std.proofs.lemmas.List.{take_all}
use Rattle.sva_open.specs.World.{parts_opened}
use Rattle.sva_open.proofs.Opened as opened
use Rattle.sva_open.proofs.opening.new_parts.Goals as goal

pub loop-endpoint-init : goal.loop-endpoint-init
loop-endpoint-init c = c.new-parts.ensures.items ∙ opened.first c.args.pasids c.args.conducts.now

pub loop-endpoint-preserved : goal.loop-endpoint-preserved
loop-endpoint-preserved c =
    c.in_ok-push.ensures.items
    ∙ opened.next c.args.pasids c.args.conducts.now c.loop-endpoint.endpoint _ c.loop-endpoint.parts.items c.in_ok-new.field-0
    (omega (arith, c.loop-endpoint-test.true)) c.loop-endpoint.invariant c.in_ok-new.ensures

pub returns : goal.returns
returns c =
    c.loop-endpoint.invariant
    ∙ ap (parts_opened c.args.pasids 0) (take_all c.loop-endpoint.endpoint c.args.conducts.now (omega (arith, c.loop-endpoint-test.false)))
