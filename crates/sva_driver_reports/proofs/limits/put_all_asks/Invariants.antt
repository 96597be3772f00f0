use Rattle.std.proofs.Common.{◌≡◌, ◌++◌, drop}
use Rattle.sva_driver_reports.specs.Limits.{asks_from}
use Rattle.sva_driver_reports.proofs.limits.put_all_asks.Given as goal

-- what was said so far, and what is left to say
abbrev pub invariant-loop-endpoint : goal.invariant-loop-endpoint
invariant-loop-endpoint l =
    l.out.items ++ asks_from l.has_caches l.lines l.endpoint (drop l.endpoint l.devices)
    ≡ l.initial.out.items ++ asks_from l.has_caches l.lines 0 l.devices
