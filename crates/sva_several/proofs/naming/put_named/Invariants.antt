use Rattle.std.proofs.Common.{◌≡◌, ◌++◌, drop, true}
use Rattle.sva_several.specs.Lines.{named}
use Rattle.sva_several.proofs.naming.put_named.Given as goal

-- the text so far, with what is left of it
abbrev pub invariant-loop-place : goal.invariant-loop-place
invariant-loop-place l = l.out.items ++ named l.name l.begins (drop l.place l.text) ≡ l.initial.out.items ++ named l.name true l.text
