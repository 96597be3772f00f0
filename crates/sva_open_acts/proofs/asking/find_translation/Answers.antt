use Rattle.std.proofs.Common.{rules, tests, ◌∙◌}
use Rattle.std.proofs.lemmas.Iterator.{YieldsList-from_slice}
use Rattle.std.proofs.lemmas.Iterator.Search.{find_from_yields_List}
use Rattle.sva_open.specs.World.{is_of}
use Rattle.sva_open_acts.proofs.asking.find_translation.Goals as goal

pub returns : goal.returns
returns c =
    c.copied.ensures
    ∙ find_from_yields_List (is_of c.args.pasid c.args.page) _ _ c.find.result c.find.ensures.ran (YieldsList-from_slice c.args.list.now cc)
    (λ x b q k. search (rules, tests))
