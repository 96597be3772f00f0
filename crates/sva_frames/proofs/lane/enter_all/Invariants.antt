use Rattle.std.proofs.Common.{◌≡◌, take, count_by, is_some}
use Rattle.sva_frames.specs.Chains.{entered}
use Rattle.sva_frames.proofs.lane.enter_all.Given as goal

abbrev pub invariant-loop-unit : goal.invariant-loop-unit
invariant-loop-unit l = record {
  after : l.lanes ≡ entered l.frame (take l.unit l.targets) l.initial.lanes;
  count : l.left ≡ count_by is_some (take l.unit l.targets);
}
