use Rattle.std.proofs.Common.{◌≡◌, take}
use Rattle.sva_open.specs.World.{parts_opened}
use Rattle.sva_open.proofs.opening.new_parts.Given as goal

abbrev pub invariant-loop-endpoint : goal.invariant-loop-endpoint
invariant-loop-endpoint l = l.parts.items ≡ parts_opened l.pasids 0 (take l.endpoint l.conducts)
