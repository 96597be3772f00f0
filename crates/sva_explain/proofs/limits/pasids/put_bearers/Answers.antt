use Rattle.std.proofs.Common.{get_or}
use Rattle.sva_explain.specs.Pasids.{bearer_line}
use Rattle.sva_lines.proofs.Lines.{said_more}
use Rattle.sva_snapshot.specs.declared.bindings.Binding.{Binding}
use Rattle.sva_snapshot.specs.declared.bindings.Stage.TheVariants.{Live}
use Rattle.sva_snapshot.specs.Shown.{binding_shown}
use Rattle.sva_explain.specs.declared.blockers.levels.Level.TheVariants.{Second}
use Rattle.sva_explain.proofs.Got.{got_same}
use Rattle.sva_explain.proofs.limits.pasids.put_bearers.Goals as goal

-- what stands past the end
blank : Binding
blank = record { endpoint = 0; space = 0; binding = 0; pasid = 0; stage = Live }

pub loop-binding-preserved : goal.loop-binding-preserved
unfolding blank
loop-binding-preserved c =
    said_more (bearer_line Second c.args.snapshot.now) binding_shown _ _ _ c.args.bindings.now c.loop-binding.binding-index
    (get_or c.args.bindings.now c.loop-binding.binding-index blank) c.loop-binding-test.true
    (got_same c.args.bindings.now c.loop-binding.binding-index blank c.loop-binding-test.true) c.loop-binding.invariant c.in_ok-put_bearer.ensures
