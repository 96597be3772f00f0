-- Lemmas on the steps of several lines.
use Rattle.std.proofs.Common.{List, ◌++◌, Result, Ok}
use Rattle.sva_grammar.specs.Grammar.{◌>>=◌}
use Rattle.sva_step.specs.declared.steps.Step.{Step}
use Rattle.sva_grammar.specs.declared.faults.LineFault.{LineFault}

-- what is read, behind what was read before
abbrev pub with_front : List Step → Result (List Step) LineFault → Result (List Step) LineFault
with_front front read = read >>= λ steps. Ok (front ++ steps)
