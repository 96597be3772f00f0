use Rattle.std.proofs.Common.{ap, ◌∙◌, map}
use Rattle.sva_frames.specs.Chains.{target_of, unlinked}
use Rattle.sva_frames.proofs.Pools.{map-replicate}
use Rattle.sva_frames.proofs.lane.Lane.open.Goals as goal

pub returns : goal.returns
returns c = ap (map target_of) (c.in_ok-vec.ensures.items_if_clones_equal (λ y is. is)) ∙ map-replicate target_of c.args.frames unlinked
