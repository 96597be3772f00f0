use Rattle.std.proofs.Common.{◌≡◌, ◌++◌, ◌∷◌, drop, List, ℕ}
use Rattle.std.specs.Prelude.{flat_map}
use denote.Ref.{Bor}
use Rattle.sva_charts.proofs.witness_rows.put_words.Given as goal

-- what was appended and what is left are the whole
abbrev pub invariant-loop-word : goal.invariant-loop-word
invariant-loop-word l =
    l.out.items ++ flat_map (λ (word : Bor (List ℕ)). 32 ∷ word.now) (drop l.word-index l.words)
    ≡ l.initial.out.items ++ flat_map (λ (word : Bor (List ℕ)). 32 ∷ word.now) l.words
