use Rattle.std.proofs.Common.{ap, ◌∙◌, rules}
use Rattle.sva_prq.specs.Groups.{is_of_binding, is_open}
use Rattle.sva_prq.proofs.Slots.{searched}
use Rattle.sva_prq.proofs.group_table.Groups.open_of.Goals as goal

pub returns : goal.returns
returns c =
    let p = is_of_binding c.args.binding in
    c.is_some.ensures
    ∙ searched p c.self.inside.slots.slots c.key_where.result (c.key_where.ensures.found p (search rules)) (c.key_where.ensures.absent p (search rules))
    ∙ ap (is_open c.args.binding) c.self.view_is
