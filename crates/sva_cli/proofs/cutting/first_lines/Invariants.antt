use Rattle.std.proofs.Common.{◌≡◌, ◌++◌, drop}
use Rattle.sva_cli.specs.Cutting.{first_lines}
use Rattle.sva_cli.proofs.cutting.first_lines.Given as goal

-- the bytes so far, with those of what is left
abbrev pub invariant-loop-place : goal.invariant-loop-place
invariant-loop-place l = l.front.items ++ first_lines l.left (drop l.place l.text) ≡ first_lines l.count l.text
