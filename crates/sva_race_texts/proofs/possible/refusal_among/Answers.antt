use Rattle.std.proofs.Common.{rules, tests, ◌∙◌, ◌==◌}
use Rattle.std.proofs.lemmas.Iterator.{YieldsList-from_slice}
use Rattle.std.proofs.lemmas.Iterator.Search.{find_from_yields_List}
use Rattle.sva_step.specs.Refusals.{number_of}
use Rattle.sva_race_texts.proofs.possible.refusal_among.Goals as goal

pub returns : goal.returns
returns c =
    c.copied.ensures
    ∙ find_from_yields_List (λ refusal. number_of refusal == c.args.number) _ _ c.find.result c.find.ensures.ran
    (YieldsList-from_slice c.args.refusals.now cc) (λ x b q k. search (rules, tests))
