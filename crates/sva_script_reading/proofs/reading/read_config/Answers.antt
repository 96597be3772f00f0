use Rattle.std.proofs.Common.{◌≡◌, ◌+◌, false, rules}
use Rattle.sva_grammar.specs.Grammar.{is_too_large}
use Rattle.sva_script_reading.specs.Begins.{config_in, lines_from}
use Rattle.sva_script_reading.proofs.BeginLemmas.{config_begins}
use Rattle.sva_script_reading.proofs.reading.read_config.Goals as goal

pub returns-clause-begins : goal.returns-clause-begins
returns-clause-begins c =
    let small : is_too_large c.args.text.now ≡ false = search rules in
    let begin = config_in c.new-lines.result.number (lines_from (c.new-lines.result.number + 1) c.new-lines.result.rest.now) in
    config_begins c.args.text.now begin (lines_from (c.take_config.new.lines.number + 1) c.take_config.new.lines.rest.now) c.args.faults.now.items
    c.take_config.new.faults.items c.take_config.result small
    (λ i. config_in (c.new-lines.ensures.number i) (lines_from (c.new-lines.ensures.number i + 1) (c.new-lines.ensures.rest i)))
    c.requires c.take_config.ensures
