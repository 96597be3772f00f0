use Rattle.std.proofs.Common.{rules, ap, ap₂, codes, ◌≡◌, ◌∙◌}
use Rattle.std.proofs.lemmas.Result.{IfOk-weaker}
use Rattle.clap.specs.Words.{App, app_of, new_app, with_rule, with_subcommand}
use Rattle.sva_command.specs.Command.{flag_rule}
use Rattle.sva_command.proofs.command.with_chart.Goals as goal

pub returns : goal.returns
returns c =
    let bare_is : app_of c.after_help-chart.result ≡ new_app (codes "chart") = search rules in
    let chart_is : app_of c.in_ok-with_svg.with_svg ≡ with_rule (new_app (codes "chart")) (flag_rule (codes "svg")) =
    c.in_ok-with_svg.ensures.shape c.flag.ensures.local ∙ ap₂ with_rule bare_is c.flag.ensures.rule in
    IfOk-weaker c.subcommand.result _ _ (λ r added. added.shape (search rules)
    ∙ ap (λ (a : App). with_subcommand (app_of c.args.svahost) a.top) chart_is) c.subcommand.ensures
