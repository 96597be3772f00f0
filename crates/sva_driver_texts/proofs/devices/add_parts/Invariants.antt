use Rattle.std.proofs.Common.{◌≡◌, drop}
use Rattle.sva_race_texts.proofs.Lists.{said}
use Rattle.sva_driver_texts.specs.Devices.{device_seen, parts_by, parts_from}
use Rattle.sva_driver_texts.proofs.devices.add_parts.Given as goal

-- the words that are left, behind what was told so far, give what all give
abbrev pub invariant-loop-at : goal.invariant-loop-at
invariant-loop-at l =
    parts_by l.was_read (device_seen l.device) l.at (drop l.at (said l.words)) (said l.words)
    ≡ parts_from (device_seen l.initial.device) l.start (said l.words)
