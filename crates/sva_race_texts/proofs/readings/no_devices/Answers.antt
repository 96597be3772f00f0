use Rattle.sva_race_texts.proofs.DeviceLemmas.{no_more_devices}
use Rattle.sva_race_texts.proofs.readings.no_devices.Goals as goal

pub loop-place-preserved : goal.loop-place-preserved
loop-place-preserved c =
    no_more_devices c.loop-place.list.items c.push.new.self.items c.loop-place._place c.in_ok-push.ensures.items c.loop-place.invariant
