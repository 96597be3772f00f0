use Rattle.std.proofs.Common.{◌≡◌, map, replicate}
use Rattle.sva_driver_texts.specs.Devices.{device_seen, untold}
use Rattle.sva_driver_texts.proofs.readings.all_untold.Given as goal

abbrev pub invariant-loop-endpoint : goal.invariant-loop-endpoint
invariant-loop-endpoint l = map device_seen l.devices.items ≡ replicate l._endpoint untold
