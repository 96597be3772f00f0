use Rattle.std.proofs.Common.{rules, ap, ap₂, codes, ◌≡◌, ◌∙◌}
use Rattle.std.proofs.lemmas.Result.{IfOk-weaker}
use Rattle.clap.specs.Words.{App, app_of, new_app, with_rule, with_subcommand}
use Rattle.sva_command.specs.Command.{flag_rule}
use Rattle.sva_command.proofs.command.with_trace.Goals as goal

pub returns : goal.returns
returns c =
    let bare_is : app_of c.after_help-trace.result ≡ new_app (codes "trace") = search rules in
    let live_is : app_of c.in_ok-with_live.with_live ≡ with_rule (new_app (codes "trace")) (flag_rule (codes "live")) =
    c.in_ok-with_live.ensures.shape c.flag.ensures.local ∙ ap₂ with_rule bare_is c.flag.ensures.rule in
    let trace_is : app_of c.in_ok-with_why.with_why ≡ with_rule (with_rule (new_app (codes "trace")) (flag_rule (codes "live"))) (flag_rule (codes "why")) =
    c.in_ok-with_why.ensures.shape c.flag-2.ensures.local ∙ ap₂ with_rule live_is c.flag-2.ensures.rule in
    IfOk-weaker c.subcommand.result _ _ (λ r added. added.shape (search rules)
    ∙ ap (λ (a : App). with_subcommand (app_of c.args.svahost) a.top) trace_is) c.subcommand.ensures
