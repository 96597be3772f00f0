use Rattle.std.proofs.Common.{◌≡◌, ◌&&◌, false, is_none}
use Rattle.sva_labels.specs.Finding.{taken_at}
use Rattle.sva_model.specs.Labels.{is_set}
use Rattle.sva_model.specs.Words.{any_below}
use Rattle.sva_snapshot.specs.Shown.{device_shown}
use Rattle.sva_explain.proofs.enabled.finishing.names_untaken.Given as goal

-- none so far
abbrev pub invariant-loop-itag : goal.invariant-loop-itag
invariant-loop-itag l =
    any_below l.itag (λ itag. is_set l.vector itag && is_none (taken_at (device_shown l.device) itag)) ≡ false
