use Rattle.std.proofs.Common.{ap, length, arith, sym, ◌∙◌, Some, List, Option}
use Rattle.sva_frames.specs.declared.waits.Target.{Target}
use Rattle.sva_frames.specs.declared.ledger.Stage.TheVariants.{Free as FreeStage, Mapped as MappedStage, Withheld as WithheldStage}
use Rattle.sva_frames.specs.Frames.{Withheld}
use Rattle.sva_frames.specs.Pool.{row}
use Rattle.sva_frames.proofs.Holdings.{length-holdings, holding_at}
use Rattle.sva_frames.proofs.pool.FramePool.held.Goals as goal

pub get-requires : goal.get-requires
get-requires c = omega (arith, c.requires, ap length c.self.view_is, length-holdings 0 c.self.inside.ledger c.self.inside.lanes.items)

pub returns-in-Free : goal.returns-in-Free
returns-in-Free c = rw (← c.self.view_is) (holding_at c.self.inside.ledger c.self.inside.lanes.items c.args.number FreeStage c.in-Free.ensures)

pub returns-in-Mapped : goal.returns-in-Mapped
returns-in-Mapped c = rw (← c.self.view_is) (holding_at c.self.inside.ledger c.self.inside.lanes.items c.args.number MappedStage c.in-Mapped.ensures)

pub returns-in-Withheld : goal.returns-in-Withheld
returns-in-Withheld c =
    rw (← c.self.view_is)
    (holding_at c.self.inside.ledger c.self.inside.lanes.items c.args.number (WithheldStage c.in-Withheld.field-0) c.in-Withheld.ensures
    ∙ ap (λ (targets : List (Option Target)). Some (Withheld targets))
    (sym (c.row_of.ensures ∙ ap (λ (lanes : List (List (Option Target))). row lanes c.args.number) c.deref.ensures.value)))
