use Rattle.std.proofs.Common.{◌∙◌, ◌<◌, ◌≤◌, None, Some, arith, length, rules, sym}
use Rattle.sva_race_texts.proofs.Lists.{said, said_length}
use Rattle.sva_driver_texts.proofs.BodyLemmas.{parameter_told, parameters_end}
use Rattle.sva_driver_texts.proofs.wrong_bodies.parameters_wrong.Goals as goal

pub returns-in-Some : goal.returns-in-Some
returns-in-Some c =
    let inside : c.loop-at.at < length c.args.words.now = search rules in
    sym (parameter_told c.args.words.now c.loop-at.at (Some c.in-Some.wrong) inside c.in-Some.ensures) ∙ c.loop-at.invariant

pub loop-at-preserved : goal.loop-at-preserved
loop-at-preserved c =
    let inside : c.loop-at.at < length c.args.words.now = search rules in
    sym (parameter_told c.args.words.now c.loop-at.at None inside c.in_default.ensures) ∙ c.loop-at.invariant

pub returns : goal.returns
returns c =
    let past : length c.args.words.now ≤ c.loop-at.at = search rules in
    sym (parameters_end (said c.args.words.now) c.loop-at.at (omega (arith, past, said_length c.args.words.now))) ∙ c.loop-at.invariant
