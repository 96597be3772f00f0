use Rattle.std.proofs.Common.{◌≡◌, ◌-◌}
use Rattle.sva_open.specs.Units.{free_itag}
use Rattle.sva_open_acts.proofs.pumping.free_itag.Given as goal

abbrev pub invariant-loop-itag : goal.invariant-loop-itag
invariant-loop-itag l = free_itag l.issued (32 - l.itag) l.itag ≡ free_itag l.issued 32 0
