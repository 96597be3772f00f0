use Rattle.std.proofs.Common.{◌≡◌, ◌≤◌, ◌<◌, ◌∙◌, arith, sym, subst, length, rules, false, true}
use Rattle.std.specs.Prelude.{Result}
use Rattle.sva_race_texts.proofs.Lists.{said, said_length}
use Rattle.sva_driver_words.specs.declared.faults.DriverWrong.{DriverWrong}
use Rattle.sva_driver_texts.specs.Devices.{Adds, DeviceSaid, begins_pages, device_seen}
use Rattle.sva_driver_texts.proofs.Parts.{at_pages, part_next, part_wrong, parts_end}
use Rattle.sva_driver_texts.proofs.devices.add_parts.Goals as goal

pub returns-then-begins_pages : goal.returns-then-begins_pages
returns-then-begins_pages c =
    let here : c.loop-at.at < length c.args.words.now = search rules in
    let inside : c.loop-at.at < length (said c.args.words.now) = omega (arith, here, said_length c.args.words.now) in
    let begins : begins_pages c.loop-at.was_read c.loop-at.at (said c.args.words.now) ≡ true = search rules in
    subst (λ (read : Result DeviceSaid DriverWrong). Adds read (device_seen c.add_pages.new.device) c.add_pages.result)
    (sym (at_pages (said c.args.words.now) c.loop-at.at c.loop-at.was_read (device_seen c.loop-at.device) inside begins) ∙ c.loop-at.invariant)
    c.add_pages.ensures

pub returns-in-Err : goal.returns-in-Err
returns-in-Err c =
    let here : c.loop-at.at < length c.args.words.now = search rules in
    let inside : c.loop-at.at < length (said c.args.words.now) = omega (arith, here, said_length c.args.words.now) in
    let other : begins_pages c.loop-at.was_read c.loop-at.at (said c.args.words.now) ≡ false = search rules in
    sym c.loop-at.invariant
    ∙ part_wrong (said c.args.words.now) c.loop-at.at c.loop-at.was_read (device_seen c.loop-at.device) c.in-Err.wrong inside other c.in-Err.ensures

pub loop-at-preserved : goal.loop-at-preserved
loop-at-preserved c =
    let here : c.loop-at.at < length c.args.words.now = search rules in
    let inside : c.loop-at.at < length (said c.args.words.now) = omega (arith, here, said_length c.args.words.now) in
    let other : begins_pages c.loop-at.was_read c.loop-at.at (said c.args.words.now) ≡ false = search rules in
    sym (part_next (said c.args.words.now) c.loop-at.at c.loop-at.was_read _ (device_seen c.loop-at.device) (device_seen c.add_word.new.device)
    inside other c.in-Ok.ensures (search rules))
    ∙ c.loop-at.invariant

pub returns : goal.returns
returns c =
    let end : length c.args.words.now ≤ c.loop-at.at = search rules in
    let past : length (said c.args.words.now) ≤ c.loop-at.at = omega (arith, end, said_length c.args.words.now) in
    sym c.loop-at.invariant ∙ parts_end (said c.args.words.now) c.loop-at.at c.loop-at.was_read (device_seen c.loop-at.device) past
