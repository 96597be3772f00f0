use Rattle.std.proofs.Common.{◌≡◌, ◌&&◌, false}
use Rattle.std.specs.Prelude.{not}
use Rattle.sva_labels.specs.Finding.{has_room, submits, unit_of}
use Rattle.sva_model.specs.Words.{any_below}
use Rattle.sva_explain.proofs.enabled.unmapping.is_some_full.Given as goal

-- none so far lacks the room
abbrev pub invariant-loop-endpoint : goal.invariant-loop-endpoint
invariant-loop-endpoint l =
    any_below l.endpoint (λ endpoint. submits l.snapshot l.space endpoint && not (has_room (unit_of l.snapshot endpoint) l.needed)) ≡ false
