use Rattle.std.proofs.Common.{◌∙◌}
use Rattle.std.specs.Str.{bytes_eq}
use denote.Ref.{Bor}
use Rattle.std.proofs.Common.{List, ℕ}
use Rattle.sva_race_texts.proofs.PieceLemmas.{any_seen}
use Rattle.sva_driver_texts.proofs.titles.is_among.Goals as goal

pub returns : goal.returns
returns c =
    c.is_lent_among-found.ensures
    ∙ any_seen {A = Bor (List ℕ)} {B = List ℕ} (λ own. own.now) (λ own. bytes_eq own c.args.word.now) c.args.words.now
