use Rattle.std.proofs.Common.{◌<◌, ◌≤◌, length, rules, sym}
use Rattle.sva_race_texts.specs.Devices.{line_if, may_be_silent}
use Rattle.sva_race_texts.proofs.DeviceLemmas.{made_end, made_next}
use Rattle.sva_race_texts.proofs.pages.silent_of.Goals as goal

pub loop-place-preserved : goal.loop-place-preserved
loop-place-preserved c =
    let inside : c.loop-place.place < length c.args.lines.now = search rules in
    made_next (λ line. may_be_silent (line_if line)) c.args.lines.now c.loop-place.place c.index-lines-place.result c.loop-place.silent.items
    c.push.new.self.items c.may_be_silent.result inside (sym c.index-lines-place.is) c.may_be_silent.ensures c.in_ok-push.ensures.items
    c.loop-place.invariant

pub returns : goal.returns
returns c =
    let past : length c.args.lines.now ≤ c.loop-place.place = search rules in
    made_end (λ line. may_be_silent (line_if line)) c.args.lines.now c.loop-place.place c.loop-place.silent.items past c.loop-place.invariant
