use Rattle.std.proofs.Common.{◌∙◌, ◌+◌, ◌-◌, ap, sym, length}
use Rattle.sva_script.proofs.ItemLemmas.{to_end}
use Rattle.sva_script.proofs.PartLemmas.{expected_part, parts_whole, step_part}
use Rattle.sva_script.proofs.parts.unnamed_parts.Goals as goal

pub returns-in-Some-clause-step : goal.returns-in-Some-clause-step
returns-in-Some-clause-step c = step_part c.args.words.now c.in-Some.arrow (sym c.arrow_in.ensures.at ∙ c.in-Some.is)

pub returns-in-Some-clause-expected : goal.returns-in-Some-clause-expected
returns-in-Some-clause-expected c =
    expected_part c.args.words.now c.in-Some.arrow (length c.args.words.now - (c.in-Some.arrow + 1)) (sym c.arrow_in.ensures.at ∙ c.in-Some.is)
    (to_end (c.in-Some.arrow + 1) c.args.words.now)

pub returns-in-None-clause-step : goal.returns-in-None-clause-step
returns-in-None-clause-step c = sym (ap (λ parts. parts.step) (parts_whole c.args.words.now (sym c.arrow_in.ensures.at ∙ c.in-None.is)))

pub returns-in-None-clause-expected : goal.returns-in-None-clause-expected
returns-in-None-clause-expected c = sym (ap (λ parts. parts.expected) (parts_whole c.args.words.now (sym c.arrow_in.ensures.at ∙ c.in-None.is)))
