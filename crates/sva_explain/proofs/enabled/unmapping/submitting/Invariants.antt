use Rattle.std.proofs.Common.{◌≡◌, ◌≤◌}
use Rattle.sva_labels.specs.Finding.{submits}
use Rattle.sva_model.specs.Words.{count_below}
use Rattle.sva_explain.proofs.enabled.unmapping.submitting.Given as goal

-- those so far are counted
abbrev pub invariant-loop-endpoint : goal.invariant-loop-endpoint
invariant-loop-endpoint l = (l.found ≡ count_below l.endpoint (submits l.snapshot l.space)) × (l.found ≤ l.endpoint)
