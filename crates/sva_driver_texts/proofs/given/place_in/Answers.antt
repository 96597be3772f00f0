use Rattle.std.proofs.Common.{◌∙◌, List, ℕ, sym}
use Rattle.std.specs.Str.{bytes_eq}
use denote.Ref.{Bor}
use Rattle.sva_script.proofs.PartLemmas.{position_map}
use Rattle.sva_driver_texts.proofs.given.place_in.Goals as goal

pub returns : goal.returns
returns c =
    c.lent_place-place.ensures
    ∙ sym (position_map {X = Bor (List ℕ)} {Y = List ℕ} (λ own. own.now) (λ own. bytes_eq own c.args.word.now) c.args.words.now)
