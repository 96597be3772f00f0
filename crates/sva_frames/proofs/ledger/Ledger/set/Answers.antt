use Rattle.std.proofs.Common.{◌<◌, cond, length, ap, ◌∙◌}
use Rattle.sva_frames.specs.Stages.{is_free_stage, is_mapped_stage, is_withheld_stage}
use Rattle.sva_frames.proofs.Ledgers.{ledger_set, count_moved, count_fits}
use Rattle.sva_frames.proofs.ledger.Ledger.set.Goals as goal

pub invariant_of-self : goal.invariant_of-self
invariant_of-self c =
    let within : c.args.frame < length c.self.inside.stages.items = rw c.self.view_is c.requires in
    ledger_set c.self.inside.stages.items c.self.inside.free c.put.new.self c.self.inside.counts _ c.args.frame c.args.stage c.self.invariant within
    c.put.ensures.length
    (c.put.ensures.same ∙ ap (λ b. cond b 1 0) c.is_free-3.ensures) c.put.ensures.others
    (count_moved is_free_stage c.self.inside.stages.items c.args.frame c.index-old.result.now c.args.stage c.is_free.result c.is_free-2.result
    c.self.inside.counts.free c.moved-self-inside.result within c.self.invariant.free c.index-old.ensures c.is_free.ensures c.is_free-2.ensures
    c.moved-self-inside.ensures)
    (count_moved is_mapped_stage c.self.inside.stages.items c.args.frame c.index-old.result.now c.args.stage c.is_mapped.result c.is_mapped-2.result
    c.self.inside.counts.mapped c.moved-self-inside-2.result within c.self.invariant.mapped c.index-old.ensures c.is_mapped.ensures
    c.is_mapped-2.ensures c.moved-self-inside-2.ensures)
    (count_moved is_withheld_stage c.self.inside.stages.items c.args.frame c.index-old.result.now c.args.stage c.is_withheld.result
    c.is_withheld-2.result c.self.inside.counts.withheld c.moved-self-inside-3.result within c.self.invariant.withheld c.index-old.ensures
    c.is_withheld.ensures c.is_withheld-2.ensures c.moved-self-inside-3.ensures)

pub moved-self-inside-requires-clause-fits : goal.moved-self-inside-requires-clause-fits
moved-self-inside-requires-clause-fits c =
    count_fits is_free_stage c.self.inside.stages.items c.args.frame c.index-old.result.now c.args.stage c.is_free.result c.is_free-2.result
    c.self.inside.counts.free (rw c.self.view_is c.requires) c.self.invariant.few c.self.invariant.free c.index-old.ensures c.is_free.ensures
    c.is_free-2.ensures

pub moved-self-inside-requires-2-clause-fits : goal.moved-self-inside-requires-2-clause-fits
moved-self-inside-requires-2-clause-fits c =
    count_fits is_mapped_stage c.self.inside.stages.items c.args.frame c.index-old.result.now c.args.stage c.is_mapped.result c.is_mapped-2.result
    c.self.inside.counts.mapped (rw c.self.view_is c.requires) c.self.invariant.few c.self.invariant.mapped c.index-old.ensures
    c.is_mapped.ensures c.is_mapped-2.ensures

pub moved-self-inside-requires-3-clause-fits : goal.moved-self-inside-requires-3-clause-fits
moved-self-inside-requires-3-clause-fits c =
    count_fits is_withheld_stage c.self.inside.stages.items c.args.frame c.index-old.result.now c.args.stage c.is_withheld.result
    c.is_withheld-2.result c.self.inside.counts.withheld (rw c.self.view_is c.requires) c.self.invariant.few c.self.invariant.withheld
    c.index-old.ensures c.is_withheld.ensures c.is_withheld-2.ensures
