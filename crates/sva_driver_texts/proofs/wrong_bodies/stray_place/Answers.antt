use Rattle.std.proofs.Common.{◌∙◌, List, ℕ, sym}
use denote.Ref.{Bor}
use Rattle.sva_script.proofs.PartLemmas.{position_map}
use Rattle.sva_race_texts.proofs.Lists.{said}
use Rattle.sva_driver_texts.specs.WrittenOut.{is_stray}
use Rattle.sva_driver_texts.proofs.wrong_bodies.stray_place.Goals as goal

pub returns : goal.returns
returns c =
    c.lent_stray_place-place.ensures
    ∙ sym (position_map {X = Bor (List ℕ)} {Y = List ℕ} (λ word. word.now) (is_stray (said c.args.parameters.now)) c.args.words.now)
