use Rattle.std.proofs.Common.{◌≡◌, map, option_map, take}
use Rattle.sva_parts_by_labels.specs.JobTable.{job_seen}
use Rattle.sva_snapshot.specs.Shown.{job_shown}
use Rattle.sva_snapshot.proofs.jobs.all_of.Given as goal

abbrev pub invariant-loop-hand : goal.invariant-loop-hand
invariant-loop-hand l = map (option_map job_shown) l.own.items ≡ map (option_map job_seen) (take l.hand-index l.hands)
