use Rattle.std.proofs.Common.{◌∙◌, ap, sym, ℕ, List, [], Option, option_map}
use Rattle.std.specs.Option.{unwrap_or}
use Rattle.sva_race_texts.proofs.Lists.{now, said, word_or}
use Rattle.sva_race_texts.proofs.words.word_at.Goals as goal

pub returns-in-Some : goal.returns-in-Some
returns-in-Some c =
    ap (λ (found : Option (List ℕ)). unwrap_or found []) (ap (option_map now) (sym c.in-Some.is) ∙ c.word_in.ensures)
    ∙ word_or (said c.args.words.now) c.args.at

pub returns-in-None : goal.returns-in-None
returns-in-None c =
    ap (λ (found : Option (List ℕ)). unwrap_or found []) (ap (option_map now) (sym c.in-None.is) ∙ c.word_in.ensures)
    ∙ word_or (said c.args.words.now) c.args.at
