use Rattle.std.proofs.Common.{◌≡◌, ◌⊎◌, length}
use Rattle.sva_grammar.specs.Grammar.{IsStepFirst, steps_of}
use Rattle.sva_grammar.proofs.StepLemmas.{with_front}
use Rattle.sva_grammar.proofs.parsing.steps_in.Given as goal

-- the steps so far, and those of the lines that are left, are those of all; and the first line is one that is left, or a step
abbrev pub invariant-loop-number : goal.invariant-loop-number
invariant-loop-number l = record {
  all : with_front l.steps.items (steps_of l.lines) ≡ steps_of l.fn.lines;
  begun : (l.lines ≡ l.fn.lines) ⊎ IsStepFirst l.fn.lines;
}

abbrev pub decreases-loop-number : goal.decreases-loop-number
decreases-loop-number l = length l.lines
