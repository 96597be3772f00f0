use Rattle.std.proofs.Common.{rules, ap, ap₂, codes, ◌≡◌, ◌∙◌}
use Rattle.std.proofs.lemmas.Result.{IfOk-weaker}
use Rattle.clap.specs.Words.{App, app_of, new_app, with_rule, with_subcommand}
use Rattle.sva_command.specs.Command.{flag_rule, most_rule}
use Rattle.sva_command.proofs.command.with_explore.Goals as goal

pub returns : goal.returns
returns c =
    let bare_is : app_of c.after_help-explore.result ≡ new_app (codes "explore") = search rules in
    let most_is : app_of c.in_ok-with_most.with_most ≡ with_rule (new_app (codes "explore")) most_rule =
    c.in_ok-with_most.ensures.shape c.most_option.ensures.local ∙ ap₂ with_rule bare_is c.most_option.ensures.rule in
    let why_is : app_of c.in_ok-with_why.with_why ≡ with_rule (with_rule (new_app (codes "explore")) most_rule) (flag_rule (codes "why")) =
    c.in_ok-with_why.ensures.shape c.flag.ensures.local ∙ ap₂ with_rule most_is c.flag.ensures.rule in
    let explore_is : app_of c.in_ok-with_ends.with_ends
    ≡ with_rule (with_rule (with_rule (new_app (codes "explore")) most_rule) (flag_rule (codes "why"))) (flag_rule (codes "ends")) =
    c.in_ok-with_ends.ensures.shape c.flag-2.ensures.local ∙ ap₂ with_rule why_is c.flag-2.ensures.rule in
    IfOk-weaker c.subcommand.result _ _ (λ r added. added.shape (search rules)
    ∙ ap (λ (a : App). with_subcommand (app_of c.args.svahost) a.top) explore_is) c.subcommand.ensures
