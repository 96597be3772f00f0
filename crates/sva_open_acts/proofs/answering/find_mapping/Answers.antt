use Rattle.std.proofs.Common.{rules, tests, ◌∙◌}
use Rattle.std.proofs.lemmas.Iterator.{YieldsList-from_slice}
use Rattle.std.proofs.lemmas.Iterator.Search.{find_from_yields_List}
use Rattle.sva_open.specs.World.{is_page}
use Rattle.sva_open_acts.proofs.answering.find_mapping.Goals as goal

pub returns : goal.returns
returns c =
    c.copied.ensures
    ∙ find_from_yields_List (is_page c.args.space c.args.page) _ _ c.find.result c.find.ensures.ran (YieldsList-from_slice c.args.mappings.now cc)
    (λ x b q k. search (rules, tests))
