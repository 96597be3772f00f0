use Rattle.std.proofs.Common.{◌∙◌, List, map, subst, ℕ}
use denote.Ref.{Bor}
use Rattle.sva_driver_words.specs.declared.kept.Under.{Under}
use Rattle.sva_driver_words.specs.Sayings.{saying_seen}
use Rattle.sva_driver_words.specs.Taking.{Gives}
use Rattle.sva_driver_texts.specs.Readings.{saying_under}
use Rattle.sva_driver_texts.proofs.readings.Reading.saying_in.Goals as goal

pub returns : goal.returns
returns c =
    let words = map {A = Bor (List ℕ)} {B = List ℕ} (λ word. word.now) c.args.words.now in
    subst (λ (under : List Under). Gives saying_seen (saying_under c.args.config.now c.args.self.now under c.args.thread.now words) c.saying_under.result)
    (c.as_slice.ensures.value ∙ c.in-Ok.ensures) c.saying_under.ensures
