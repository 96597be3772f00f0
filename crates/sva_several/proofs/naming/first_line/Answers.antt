use Rattle.std.proofs.Common.{◌==◌, ◌∙◌, ap, sym, rules, tests}
use Rattle.std.proofs.lemmas.Iterator.{YieldsList-from_slice}
use Rattle.std.proofs.lemmas.Iterator.Search.{position_from_yields_List}
use Rattle.sva_several.specs.Lines.{line_to}
use Rattle.sva_several.proofs.naming.first_line.Goals as goal

pub returns-in-Some : goal.returns-in-Some
returns-in-Some c =
    let text = c.args.text.now in
    let found = position_from_yields_List (λ byte. byte == 10) _ _ c.position.result c.position.ensures.ran (YieldsList-from_slice text (cc))
    (λ x b q k. search (rules, tests)) in
    sym (ap (line_to text) (sym found ∙ c.in-Some.is))

pub returns-in-None : goal.returns-in-None
returns-in-None c =
    let text = c.args.text.now in
    let found = position_from_yields_List (λ byte. byte == 10) _ _ c.position.result c.position.ensures.ran (YieldsList-from_slice text (cc))
    (λ x b q k. search (rules, tests)) in
    sym (ap (line_to text) (sym found ∙ c.in-None.is))
