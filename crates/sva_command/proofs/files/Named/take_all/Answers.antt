use Rattle.std.proofs.Common.{◌∙◌, ap}
use Rattle.sva_command.specs.Files.{with_word}
use Rattle.sva_command.proofs.Parts.{all_taken, taken}
use Rattle.sva_command.proofs.files.Named.take_all.Goals as goal

pub loop-place-preserved : goal.loop-place-preserved
loop-place-preserved c =
    taken c.args.words.now c.loop-place.place c.index-words-place.result c.loop-place-test.true c.index-words-place.is c.loop-place.self c.take.new.self _
    (c.in_ok-take.ensures ∙ ap (with_word c.loop-place.self) c.as_str.ensures.value) c.loop-place.invariant

pub returns : goal.returns
returns c = all_taken c.args.words.now c.loop-place.place c.loop-place-test.false c.loop-place.self _ c.loop-place.invariant
