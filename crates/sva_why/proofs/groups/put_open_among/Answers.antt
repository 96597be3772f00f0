use Rattle.sva_lines.proofs.Lines.{said_more}
use Rattle.sva_snapshot.specs.Shown.{endpoint_shown, host_group_shown}
use Rattle.sva_why.specs.Groups.{open_if}
use Rattle.sva_why.proofs.groups.put_open_among.Goals as goal

pub loop-group-preserved : goal.loop-group-preserved
loop-group-preserved c =
    said_more (open_if c.args.level c.args.snapshot.now c.args.endpoint (endpoint_shown c.args.part.now) c.args.binding) host_group_shown _ _ _
    c.args.groups.now c.loop-group.group-index c.group-item.result c.loop-group-test.true c.group-item.is c.loop-group.invariant
    c.in_ok-put_open_if.ensures
