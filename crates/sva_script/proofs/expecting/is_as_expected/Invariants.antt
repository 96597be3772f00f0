use Rattle.std.proofs.Common.{◌≡◌, length}
use Rattle.sva_grammar.specs.Grammar.{words_of}
use Rattle.sva_script.specs.Expect.{are_as_expected}
use Rattle.sva_script.proofs.expecting.is_as_expected.Given as goal

-- all are as expected where those that are left are
abbrev pub invariant-loop-wanted : goal.invariant-loop-wanted
invariant-loop-wanted l = are_as_expected (words_of l.expected) (words_of l.answer) ≡ are_as_expected (words_of l.initial.expected) (words_of l.initial.answer)

-- what is left gets shorter
abbrev pub decreases-loop-wanted : goal.decreases-loop-wanted
decreases-loop-wanted l = length l.expected
