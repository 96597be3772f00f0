use Rattle.std.proofs.Common.{◌∙◌, ◌++◌, ◌∷◌, ◌≤◌, List, ap, length, rules, ℕ}
use denote.Ref.{Bor}
use Rattle.sva_script_reading.proofs.FaultLemmas.{piece_end, pieces_seen}
use Rattle.sva_charts.proofs.witness_rows.put_words.Goals as goal

pub returns : goal.returns
returns c =
    let past : length c.args.words.now ≤ c.loop-word.word-index = search rules in
    piece_end (λ (word : Bor (List ℕ)). 32 ∷ word.now) c.args.words.now c.loop-word.word-index c.loop-word.out.items _ past
    c.loop-word.invariant
    ∙ ap (λ l. c.args.out.now.items ++ l) (pieces_seen (λ word. 32 ∷ word) (λ (word : Bor (List ℕ)). word.now) c.args.words.now)
