use Rattle.std.proofs.Common.{count_ones, List, Option, ap, ◌∙◌}
use Rattle.sva_model.specs.Wire.{BusyWire}
use Rattle.sva_queue.specs.Queue.{Queue}
use Rattle.sva_iommu.specs.Seen.{UnitSeen, seen, unit_seen, with_unit}
use Rattle.sva_iommu.specs.Changes.{freed_by, unit_completed}
use Rattle.sva_iommu.proofs.Completes.{completed_is, freed_is}
use Rattle.sva_iommu.proofs.units.RemappingUnit.complete.Goals as goal

pub returns-clause-freed : goal.returns-clause-freed
returns-clause-freed c =
    ap count_ones c.arrived.ensures.freed
    ∙ freed_is c.args.vector c.args.count c.self.inside.queue.tags c.busy.ensures.tags.0
    ∙ ap (λ (s : UnitSeen). freed_by s.unit c.args.vector c.args.count) c.self.view_is

pub returns-clause-unit : goal.returns-clause-unit
returns-clause-unit c =
    let q = c.self.inside.queue in
    let busy = completed_is c.args.vector c.args.count q.tags c.busy.ensures.tags.0 in
    ap (λ (k : Queue). seen k c.self.inside.requests) c.arrived.ensures.queue
    ∙ ap (λ (tags : List (Option BusyWire)). with_unit (seen q c.self.inside.requests) (record (unit_seen q) { busy = tags })) busy
    ∙ ap (λ (s : UnitSeen). with_unit s (unit_completed s.unit c.args.vector c.args.count)) c.self.view_is
