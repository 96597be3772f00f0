use Rattle.std.proofs.Common.{◌≡◌, ◌+◌, rules, subst, true, false}
use Rattle.std.specs.Prelude.{Option}
use Rattle.sva_step.specs.declared.limits.Config.{Config}
use Rattle.sva_grammar.specs.Grammar.{is_too_large}
use Rattle.sva_script_reading.specs.Begins.{config_in, lines_from}
use Rattle.sva_script_reading.specs.Reading.{HasConfig}
use Rattle.sva_race_texts.proofs.WholeLemmas.{nothing_said}
use Rattle.sva_driver_texts.proofs.Wholes.{whole_large, whole_read, whole_unread}
use Rattle.sva_driver_texts.proofs.texts.read_text.Goals as goal

pub returns-then-is_too_large : goal.returns-then-is_too_large
returns-then-is_too_large c =
    let large : is_too_large c.args.text.now ≡ true = search rules in
    whole_large c.args.text.now c.args.out.now.items c.extend_from_slice.new.self.items large c.requires c.in_ok-extend_from_slice.ensures.items

pub read_all-requires-clause-none : goal.read_all-requires-clause-none
read_all-requires-clause-none c =
    let begin = config_in c.new-all.result.number (lines_from (c.new-all.result.number + 1) c.new-all.result.rest.now) in
    let left = lines_from (c.take_config.new.lines.number + 1) c.take_config.new.lines.rest.now in
    nothing_said begin c.in-Some.config left c.args.out.now.items c.take_config.new.faults.items
    (subst (λ (found : Option Config). HasConfig begin found left c.args.out.now.items c.take_config.new.faults.items) c.in-Some.is c.in_ok-config.ensures)
    c.requires

pub returns-in-Some : goal.returns-in-Some
returns-in-Some c =
    let small : is_too_large c.args.text.now ≡ false = search rules in
    let begin = config_in c.new-all.result.number (lines_from (c.new-all.result.number + 1) c.new-all.result.rest.now) in
    let left = lines_from (c.take_config.new.lines.number + 1) c.take_config.new.lines.rest.now in
    whole_read c.args.text.now (lines_from (c.new-all.result.number + 1) c.new-all.result.rest.now) begin c.in-Some.config left c.args.out.now.items
    c.take_config.new.faults.items c.read_all.new.out.items c.read_all.result small
    (λ i. lines_from (c.new-all.ensures.number i + 1) (c.new-all.ensures.rest i))
    (λ i. config_in (c.new-all.ensures.number i) (lines_from (c.new-all.ensures.number i + 1) (c.new-all.ensures.rest i)))
    (subst (λ (found : Option Config). HasConfig begin found left c.args.out.now.items c.take_config.new.faults.items) c.in-Some.is c.in_ok-config.ensures)
    c.read_all.ensures

pub returns : goal.returns
returns c =
    let small : is_too_large c.args.text.now ≡ false = search rules in
    let begin = config_in c.new-all.result.number (lines_from (c.new-all.result.number + 1) c.new-all.result.rest.now) in
    let left = lines_from (c.take_config.new.lines.number + 1) c.take_config.new.lines.rest.now in
    whole_unread c.args.text.now begin left c.args.out.now.items c.take_config.new.faults.items small
    (λ i. config_in (c.new-all.ensures.number i) (lines_from (c.new-all.ensures.number i + 1) (c.new-all.ensures.rest i)))
    c.requires
    (subst (λ (found : Option Config). HasConfig begin found left c.args.out.now.items c.take_config.new.faults.items) c.in-None.is c.in_ok-config.ensures)
