use Rattle.std.proofs.Common.{rules, ap, ◌≡◌, ◌∙◌}
use Rattle.std.proofs.lemmas.Result.{IfOk-weaker}
use Rattle.clap.specs.Words.{App, app_of, new_app, with_subcommand}
use Rattle.sva_command.proofs.command.with_bare.Goals as goal

pub returns : goal.returns
returns c =
    let command_is : app_of c.after_help-command.result ≡ new_app c.args.name.now = search rules in
    IfOk-weaker c.subcommand.result _ _ (λ r added. added.shape (search rules)
    ∙ ap (λ (a : App). with_subcommand (app_of c.args.svahost) a.top) command_is) c.subcommand.ensures
