use Rattle.std.proofs.Common.{◌≡◌, drop}
use Rattle.std.specs.List.{list_any}
use Rattle.sva_explain.proofs.enabled.finishing.is_some_noted.Given as goal

-- none so far is noted
abbrev pub invariant-loop-noted : goal.invariant-loop-noted
invariant-loop-noted l = list_any (λ noted. noted) (drop l.noted-index l.slots) ≡ list_any (λ noted. noted) l.slots
