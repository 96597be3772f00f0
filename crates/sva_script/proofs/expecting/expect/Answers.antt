use Rattle.std.proofs.Common.{◌<◌, ◌≤◌, ◌+◌, drop, length, rules, subst}
use Rattle.std.specs.Prelude.{Ok, Err}
use Rattle.sva_script.specs.Expect.{said_rest}
use Rattle.sva_script.specs.Pieces.{PutsRead}
use Rattle.sva_script.proofs.RestLemmas.{expected_some, no_more_said, said, word_not_said, word_said}
use Rattle.sva_script.proofs.expecting.expect.Goals as goal

pub returns-in-Err : goal.returns-in-Err
returns-in-Err c =
    let some : 1 ≤ length c.args.words.now = search rules in
    let inside : c.loop-index.index < length c.args.words.now = search rules in
    expected_some c.args.at c.args.names.now c.args.words.now c.args.out.now.items c.put_said.new.out.items (Err c.in-Err.stop) some
    (c.loop-index.invariant c.put_said.new.out.items (Err c.in-Err.stop)
    (word_not_said c.args.at c.args.names.now c.loop-index.place c.args.words.now c.loop-index.index _ c.loop-index.out.items
    c.put_said.new.out.items c.in-Err.stop inside c.in-Err.ensures))

pub loop-index-preserved : goal.loop-index-preserved
loop-index-preserved c = λ new result put.
    let inside : c.loop-index.index < length c.args.words.now = search rules in
    c.loop-index.invariant new result
    (word_said c.args.at c.args.names.now c.loop-index.place c.args.words.now c.loop-index.index _ c.loop-index.out.items
    c.put_said.new.out.items new c.in-Ok.field-0 result inside c.in-Ok.ensures
    (subst (λ place. PutsRead (said_rest (c.args.at + (c.loop-index.index + 1)) c.args.names.now place
    (said (drop (c.loop-index.index + 1) c.args.words.now))) c.put_said.new.out.items new result) c.place_after-place.ensures put))

pub returns : goal.returns
returns c =
    let some : 1 ≤ length c.args.words.now = search rules in
    let past : length c.args.words.now ≤ c.loop-index.index = search rules in
    expected_some c.args.at c.args.names.now c.args.words.now c.args.out.now.items c.loop-index.out.items (Ok tt) some
    (c.loop-index.invariant c.loop-index.out.items (Ok tt)
    (no_more_said (c.args.at + c.loop-index.index) c.args.names.now c.loop-index.place c.args.words.now c.loop-index.index
    c.loop-index.out.items tt past))
