use Rattle.std.proofs.Common.{◌+◌, ◌==◌, ◌∙◌, ap, sym, take, rules, tests}
use Rattle.std.proofs.lemmas.Iterator.{YieldsList-from_slice}
use Rattle.std.proofs.lemmas.Iterator.Search.{position_from_yields_List}
use Rattle.std.proofs.lemmas.List.{take_rest}
use Rattle.sva_grammar.specs.Grammar.{number}
use Rattle.sva_command.specs.Files.{part_at, part_by}
use Rattle.sva_command.proofs.files.part_of.Goals as goal

pub returns-in-Some : goal.returns-in-Some
returns-in-Some c =
    let text = c.args.text.now in
    let at = c.in-Some.at in
    let found = position_from_yields_List (λ byte. byte == 47) _ _ c.position.result c.position.ensures.ran (YieldsList-from_slice text (cc))
    (λ x b q k. search (rules, tests)) in
    c.part_by.ensures ∙ ap (λ one. part_by one c.number_in-in-Some.result) c.number_in.ensures
    ∙ ap (part_by (number (take at text))) (c.number_in-in-Some.ensures ∙ ap number (take_rest text (at + 1)))
    ∙ sym (ap (part_at text) (sym found ∙ c.in-Some.is))

pub returns-in-None : goal.returns-in-None
returns-in-None c =
    let text = c.args.text.now in
    let found = position_from_yields_List (λ byte. byte == 47) _ _ c.position.result c.position.ensures.ran (YieldsList-from_slice text (cc))
    (λ x b q k. search (rules, tests)) in
    sym (ap (part_at text) (sym found ∙ c.in-None.is))
