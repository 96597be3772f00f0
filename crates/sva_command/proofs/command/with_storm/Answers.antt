use Rattle.std.proofs.Common.{rules, ap, ap₂, codes, ◌≡◌, ◌∙◌}
use Rattle.std.proofs.lemmas.Result.{IfOk-weaker}
use Rattle.clap.specs.Words.{App, app_of, new_app, with_rule, with_subcommand}
use Rattle.sva_command.specs.Command.{turns_rule}
use Rattle.sva_command.proofs.command.with_storm.Goals as goal

pub returns : goal.returns
returns c =
    let bare_is : app_of c.after_help-storm.result ≡ new_app (codes "storm") = search rules in
    let storm_is : app_of c.in_ok-with_turns.with_turns ≡ with_rule (new_app (codes "storm")) turns_rule =
    c.in_ok-with_turns.ensures.shape c.turns_option.ensures.local ∙ ap₂ with_rule bare_is c.turns_option.ensures.rule in
    IfOk-weaker c.subcommand.result _ _ (λ r added. added.shape (search rules)
    ∙ ap (λ (a : App). with_subcommand (app_of c.args.svahost) a.top) storm_is) c.subcommand.ensures
