use Rattle.std.proofs.Common.{◌<◌, ◌≤◌, length, rules, sym}
use Rattle.sva_race_texts.specs.Devices.{has_of, has_seen, line_if}
use Rattle.sva_race_texts.proofs.DeviceLemmas.{mapped_end, mapped_next}
use Rattle.sva_race_texts.proofs.pages.devices_of.Goals as goal

pub loop-place-preserved : goal.loop-place-preserved
loop-place-preserved c =
    let inside : c.loop-place.place < length c.args.lines.now = search rules in
    mapped_next has_seen (λ line. has_of c.args.named.now (line_if line)) c.args.lines.now c.loop-place.place c.index-lines-place.result
    c.loop-place.devices.items c.push.new.self.items c.in_ok-device.device inside (sym c.index-lines-place.is) c.in_ok-device.ensures
    c.in_ok-push.ensures.items c.loop-place.invariant

pub returns : goal.returns
returns c =
    let past : length c.args.lines.now ≤ c.loop-place.place = search rules in
    mapped_end has_seen (λ line. has_of c.args.named.now (line_if line)) c.args.lines.now c.loop-place.place c.loop-place.devices.items past
    c.loop-place.invariant
