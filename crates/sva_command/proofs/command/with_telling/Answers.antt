use Rattle.std.proofs.lemmas.Result.{IfOk-weaker}
use Rattle.sva_command.proofs.command.with_telling.Goals as goal

pub returns : goal.returns
returns c =
    IfOk-weaker c.with_beside.result _ _ (λ r added. (
      c.in_ok-with_all.with_all,
      (_, c.in_ok-with_all.ensures, c.flag.ensures.rule, c.flag.ensures.local),
      added,
    )) c.with_beside.ensures
