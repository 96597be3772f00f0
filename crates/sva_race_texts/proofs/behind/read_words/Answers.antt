use Rattle.std.proofs.Common.{rules}
use Rattle.sva_script_reading.proofs.BeginLemmas.{no_words, some_words}
use Rattle.sva_race_texts.proofs.Lists.{said}
use Rattle.sva_race_texts.proofs.RunLemmas.{silent, took}
use Rattle.sva_race_texts.proofs.behind.read_words.Goals as goal

pub returns-then-is_empty : goal.returns-then-is_empty
returns-then-is_empty c =
    silent c.args.config c.args.names.now c.args.reading.now c.args.line (said c.args.words.now) (no_words c.args.words.now (search rules))

pub returns-in-Ok : goal.returns-in-Ok
returns-in-Ok c =
    took c.args.config c.args.names.now c.args.reading.now c.take_line.new.reading c.args.line (said c.args.words.now)
    (some_words c.args.words.now (search rules)) c.in-Ok.ensures
