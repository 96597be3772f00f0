use Rattle.std.proofs.Common.{rules}
use Rattle.std.proofs.lemmas.Result.{IfOk-equal}
use Rattle.sva_script_reading.proofs.BeginLemmas.{no_words, some_words}
use Rattle.sva_race_texts.proofs.Lists.{said}
use Rattle.sva_race_texts.proofs.RunLemmas.{before_none, before_some}
use Rattle.sva_race_texts.proofs.before.add_before.Goals as goal

pub returns-then-is_empty : goal.returns-then-is_empty
returns-then-is_empty c =
    before_none c.args.reading.now c.args.line (said c.args.words.now) (no_words c.args.words.now (search rules))

pub returns : goal.returns
returns c =
    IfOk-equal c.add_step.result _ _ _ c.add_step.ensures
    (before_some c.args.reading.now c.args.line (said c.args.words.now) (some_words c.args.words.now (search rules)))
