use Rattle.std.proofs.Common.{◌≡◌, ◌++◌, ◌+◌, drop, map}
use Rattle.sva_lines.specs.Devices.{pasid_lines}
use Rattle.sva_lines.specs.Pieces.{rows}
use Rattle.sva_parts_by_labels.specs.Device.{pasid_seen}
use Rattle.sva_lines.proofs.devices.put_pasids.Given as goal

-- what was said and what is left make the whole
abbrev pub invariant-loop-place : goal.invariant-loop-place
invariant-loop-place l =
    l.out.items ++ rows (pasid_lines l.endpoint) (l.place + 1) (map pasid_seen (drop l.place l.states))
    ≡ l.initial.out.items ++ rows (pasid_lines l.endpoint) 1 (map pasid_seen l.states)
