use Rattle.std.proofs.Common.{ap, ◌∙◌}
use Rattle.std.specs.Prelude.{remove}
use Rattle.sva_open.proofs.Removed.{remove_more}
use Rattle.sva_open.proofs.lists.drop_first.Goals as goal

pub loop-at-preserved : goal.loop-at-preserved
loop-at-preserved g c =
    c.drop_at.ensures ∙ ap (λ xs. remove xs 0) c.loop-at.invariant ∙ remove_more c.args.list.now.items c.loop-at._at
