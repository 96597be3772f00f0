use Rattle.std.proofs.Common.{◌≡◌, ◌++◌, flat_map, map, take}
use Rattle.sva_lines.specs.Units.{request_line}
use Rattle.sva_msg.specs.Seen.{page_request_seen}
use Rattle.sva_lines.proofs.units.put_page_queue.Given as goal

abbrev pub invariant-loop-request : goal.invariant-loop-request
invariant-loop-request l =
    l.out.items ≡ l.initial.out.items ++ flat_map (request_line l.unit) (map page_request_seen (take l.request-index l.requests))
