use Rattle.std.proofs.Common.{ap, ◌∙◌}
use Rattle.sva_prq.specs.Groups.{is_open}
use Rattle.sva_prq.specs.JobTable.{JobTable}
use Rattle.sva_prq.proofs.job_table.JobTable.open_of.Goals as goal

pub returns : goal.returns
returns c = c.open_of.ensures ∙ ap (λ (s : JobTable). is_open c.args.binding s.groups) c.self.view_is
