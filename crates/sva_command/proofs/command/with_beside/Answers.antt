use Rattle.std.proofs.lemmas.Result.{IfOk-weaker}
use Rattle.sva_command.proofs.command.with_beside.Goals as goal

pub returns : goal.returns
returns c =
    IfOk-weaker c.arg-3.result _ _ (λ r added. (
      c.in_ok-with_needed.with_needed,
      c.in_ok-with_platforms.with_platforms,
      (_, c.in_ok-with_needed.ensures, c.flag.ensures.rule, c.flag.ensures.local),
      (_, c.in_ok-with_platforms.ensures, c.flag-2.ensures.rule, c.flag-2.ensures.local),
      (_, added, c.flag-3.ensures.rule, c.flag-3.ensures.local),
    )) c.arg-3.ensures
