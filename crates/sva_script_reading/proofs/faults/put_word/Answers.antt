use Rattle.std.proofs.Common.{◌∙◌, ◌++◌, ◌≤◌, ap, arith, length}
use Rattle.std.specs.Prelude.{flat_map}
use Rattle.std.proofs.lemmas.Grind.{common_steps}
use Rattle.std.proofs.lemmas.List.{take_all}
use Rattle.sva_script_reading.specs.Faults.{shown_byte}
use Rattle.sva_script_reading.proofs.FaultLemmas.{short_word}
use Rattle.sva_script_reading.proofs.faults.put_word.Goals as goal

pub returns : goal.returns
returns c =
    let all : length c.args.word.now ≤ c.min-told.result = grind (arith, common_steps) in
    let short : length c.args.word.now ≤ 60 = grind (arith, common_steps) in
    short_word c.args.word.now c.args.out.now.items c.put_all.new.out.items short
    (c.in_ok-put_all.ensures ∙ ap (λ w. c.args.out.now.items ++ flat_map shown_byte w) (take_all c.min-told.result c.args.word.now all))
