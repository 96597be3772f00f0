use Rattle.std.proofs.Common.{◌∙◌, ap}
use Rattle.std.proofs.lemmas.Result.{IfOk-weaker}
use Rattle.sva_race_texts.proofs.Lists.{said}
use Rattle.sva_driver_texts.proofs.BodyLemmas.{first_words}
use Rattle.sva_driver_texts.proofs.written_out.parameters_of.Goals as goal

pub returns : goal.returns
returns c =
    IfOk-weaker c.from_slice.result _ _
    (λ own is. ap said is ∙ first_words c.args.words.now c.min-count.result 16 c.min-count.ensures)
    c.from_slice.ensures.items
