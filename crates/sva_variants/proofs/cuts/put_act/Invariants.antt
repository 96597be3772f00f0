use Rattle.std.proofs.Common.{◌≡◌, ◌++◌, ◌∷◌, drop, List, ℕ}
use Rattle.std.specs.Prelude.{flat_map}
use denote.Ref.{Bor}
use Rattle.sva_script_reading.specs.Faults.{shown_word}
use Rattle.sva_variants.proofs.cuts.put_act.Given as goal

-- what was appended and what is left are the whole
abbrev pub invariant-loop-word : goal.invariant-loop-word
invariant-loop-word l =
    l.out.items ++ flat_map (λ (word : Bor (List ℕ)). 32 ∷ shown_word word.now) (drop l.word-index l.act)
    ≡ l.initial.out.items ++ flat_map (λ (word : Bor (List ℕ)). 32 ∷ shown_word word.now) l.act
