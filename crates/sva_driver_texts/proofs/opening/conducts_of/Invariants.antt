use Rattle.std.proofs.Common.{◌≡◌, map, take}
use Rattle.sva_driver_texts.specs.Devices.{device_seen}
use Rattle.sva_driver_texts.specs.Texts.{conduct_of}
use Rattle.sva_driver_texts.proofs.opening.conducts_of.Given as goal

abbrev pub invariant-loop-device : goal.invariant-loop-device
invariant-loop-device l =
    l.conducts.items ≡ map (λ device. conduct_of (device_seen device)) (take l.device-index l.devices)
