use Rattle.std.proofs.Common.{◌≡◌, ◌==◌, drop}
use Rattle.std.specs.List.{list_any}
use Rattle.sva_explain.proofs.limits.pages.is_asked.Given as goal

-- none so far asks for it
abbrev pub invariant-loop-ask : goal.invariant-loop-ask
invariant-loop-ask l = list_any (λ ask. ask.page == l.page) (drop l.ask-index l.asks) ≡ list_any (λ ask. ask.page == l.page) l.asks
