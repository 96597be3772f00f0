use Rattle.std.proofs.Common.{◌≡◌, ◌++◌, flat_map, map, take}
use Rattle.sva_msg.specs.Seen.{page_request_seen}
use Rattle.sva_explain.specs.Jobs.{request_if}
use Rattle.sva_explain.proofs.outstanding.jobs.put_requests.Given as goal

-- what was said so far
abbrev pub invariant-loop-request : goal.invariant-loop-request
invariant-loop-request l =
    l.out.items ≡ l.initial.out.items ++ flat_map (request_if l.level l.snapshot l.endpoint l.index) (map page_request_seen (take l.request-index l.requests))
