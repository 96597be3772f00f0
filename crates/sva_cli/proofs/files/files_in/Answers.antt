use Rattle.std.proofs.Common.{IfOk, subst}
use Rattle.sva_cli.specs.Spoken.{IsSpokenCalled, means}
use Rattle.sva_cli.proofs.files.files_in.Goals as goal

pub returns : goal.returns
returns c =
    subst (λ asked. IfOk c.files_called.result (λ files. IsSpokenCalled c.args.usual asked (means files))) c.in_ok-called.ensures
    c.files_called.ensures
