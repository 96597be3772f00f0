use Rattle.std.proofs.Common.{◌≡◌, ◌+◌, false, rules, subst}
use Rattle.sva_grammar.specs.Grammar.{is_too_large}
use Rattle.sva_script_reading.specs.Reading.{HasConfig}
use Rattle.sva_script_reading.specs.Begins.{config_in, lines_from}
use Rattle.sva_script_reading.proofs.BeginLemmas.{begins_fault}
use Rattle.sva_script_reading.proofs.reading.read_script.Goals as goal

pub returns-in-None-clause-begins : goal.returns-in-None-clause-begins
returns-in-None-clause-begins c =
    let small : is_too_large c.args.text.now ≡ false = search rules in
    let begin = config_in c.new-lines.result.number (lines_from (c.new-lines.result.number + 1) c.new-lines.result.rest.now) in
    begins_fault c.args.text.now begin (lines_from (c.take_config.new.lines.number + 1) c.take_config.new.lines.rest.now) c.args.faults.now.items
    c.take_config.new.faults.items small
    (λ i. config_in (c.new-lines.ensures.number i) (lines_from (c.new-lines.ensures.number i + 1) (c.new-lines.ensures.rest i)))
    c.requires
    (subst (λ found. HasConfig begin found (lines_from (c.take_config.new.lines.number + 1) c.take_config.new.lines.rest.now) c.args.faults.now.items
    c.take_config.new.faults.items) c.in-None.is c.in_ok-take_config.ensures)
