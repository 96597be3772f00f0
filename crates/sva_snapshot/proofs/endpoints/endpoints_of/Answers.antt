use Rattle.std.proofs.Common.{ap, length, map, refl, ◌∙◌}
use Rattle.std.proofs.lemmas.Option.{slice_get_read}
use Rattle.sva_host_state.specs.Inner.{part_seen}
use Rattle.sva_snapshot.specs.Shown.{endpoint_shown, own_groups}
use Rattle.sva_snapshot.proofs.More.{endpoint_more}
use Rattle.sva_snapshot.proofs.endpoints.endpoints_of.Goals as goal

pub loop-number-preserved : goal.loop-number-preserved
loop-number-preserved c =
    ap (map endpoint_shown) c.in_ok-push.ensures.items
    ∙ endpoint_more endpoint_shown part_seen (own_groups c.args.groups.now) c.loop-number.endpoints.items c.in_ok-endpoint_of.field-0
    c.args.ports.now c.loop-number.number c.index-ports-number.result
    (slice_get_read c.args.ports.now (length c.args.ports.now) c.loop-number.number c.index-ports-number.result refl c.loop-number-test.true
    c.index-ports-number.is)
    c.loop-number.invariant c.in_ok-endpoint_of.ensures
