use Rattle.std.proofs.Common.{◌≡◌, ◌≤◌, drop, length}
use Rattle.std.specs.Prelude.{find}
use Rattle.sva_script_reading.specs.Messages.{is_of}
use Rattle.sva_script_runs.proofs.kinds.oldest_of.Given as goal

-- what is found of those that are left is found of all
abbrev pub invariant-loop-place : goal.invariant-loop-place
invariant-loop-place l = find (is_of l.kind l.endpoint) (drop l.place l.world.in_flight) ≡ find (is_of l.kind l.endpoint) l.world.in_flight
