use Rattle.std.proofs.Common.{◌≡◌, ◌++◌, drop, map}
use Rattle.sva_driver_words.specs.Awaits.{line_seen}
use Rattle.sva_driver_texts.specs.Devices as devices
use Rattle.sva_driver_texts.specs.Plans.{device_seen, planned_from}
use Rattle.sva_driver_texts.proofs.plans.all_planned.Given as goal

-- the endpoints so far, with those that are left
abbrev pub invariant-loop-endpoint : goal.invariant-loop-endpoint
invariant-loop-endpoint l =
    map device_seen l.list.items
    ++ planned_from (map line_seen l.lines) l.endpoint (map devices.device_seen (drop l.endpoint l.told))
    ≡ planned_from (map line_seen l.lines) 0 (map devices.device_seen l.told)
