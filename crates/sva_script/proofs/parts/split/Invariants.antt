use Rattle.std.proofs.Common.{◌≡◌, ◌++◌, length, map, ℕ, List}
use denote.Ref.{Bor}
use Rattle.sva_grammar.specs.Grammar.{words_of}
use Rattle.sva_script.specs.Lines.{said, script_words}
use Rattle.sva_script.proofs.parts.split.Given as goal

-- the words so far, and those of what is left, are those of the line
abbrev pub invariant-loop-word : goal.invariant-loop-word
invariant-loop-word l = map {A = Bor (List ℕ)} {B = List ℕ} (λ word. word.now) l.words.items ++ said (words_of l.rest) ≡ script_words l.line

-- what is left gets shorter
abbrev pub decreases-loop-word : goal.decreases-loop-word
decreases-loop-word l = length l.rest
