use Rattle.std.proofs.Common.{◌∙◌, ◌++◌, ◌∷◌, ◌≤◌, List, ap, length, rules, ℕ}
use denote.Ref.{Bor}
use Rattle.sva_script_reading.proofs.FaultLemmas.{piece_end, pieces_seen}
use Rattle.sva_script_reading.specs.Faults.{shown_word}
use Rattle.sva_variants.proofs.cuts.put_act.Goals as goal

pub returns : goal.returns
returns c =
    let past : length c.args.act.now ≤ c.loop-word.word-index = search rules in
    piece_end (λ (word : Bor (List ℕ)). 32 ∷ shown_word word.now) c.args.act.now c.loop-word.word-index c.loop-word.out.items _ past
    c.loop-word.invariant
    ∙ ap (λ l. c.args.out.now.items ++ l) (pieces_seen (λ word. 32 ∷ shown_word word) (λ (word : Bor (List ℕ)). word.now) c.args.act.now)
