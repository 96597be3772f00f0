use Rattle.std.proofs.Common.{◌+◌, List, ℕ, drop}
use Rattle.std.specs.Prelude.{Result}
use Rattle.sva_script.specs.declared.faults.Stop.{Stop}
use Rattle.sva_script.specs.Expect.{said_rest}
use Rattle.sva_script.specs.Pieces.{PutsRead}
use Rattle.sva_script.proofs.RestLemmas.{said}
use Rattle.sva_script.proofs.expecting.expect.Given as goal

-- what is put of the words that are left is put of all
abbrev pub invariant-loop-index : goal.invariant-loop-index
invariant-loop-index l =
    (new : List ℕ) (result : Result (Unit {0}) Stop)
    → PutsRead (said_rest (l.at + l.index) l.names l.place (said (drop l.index l.words))) l.out.items new result
    → PutsRead (said_rest l.at l.names l.initial.place (said l.words)) l.initial.out.items new result
