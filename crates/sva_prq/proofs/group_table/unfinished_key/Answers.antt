use Rattle.std.proofs.Common.{rules}
use Rattle.sva_prq.specs.Groups.{is_collecting}
use Rattle.sva_prq.specs.Slots.{MayHold}
use Rattle.sva_prq.proofs.Slots.{fewer}
use Rattle.sva_prq.proofs.group_table.unfinished_key.Goals as goal

pub returns-in_default-clause-absent : goal.returns-in_default-clause-absent
returns-in_default-clause-absent c =
    let p = is_collecting c.args.unit c.args.binding c.args.index in
    fewer c.key_where.result (MayHold c.args.cell) p c.args.slots.now.slots (c.key_where.ensures.absent p (search rules))
