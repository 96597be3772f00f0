use Rattle.std.proofs.lemmas.Result.{IfOk-weaker}
use Rattle.sva_cli.proofs.telling.texts_of.Goals as goal

pub returns : goal.returns
returns g c =
    IfOk-weaker c.give_all.result _ _ (λ all given. (c.in_ok-standard.standard, c.in_ok-standard.ensures, given)) c.give_all.ensures
