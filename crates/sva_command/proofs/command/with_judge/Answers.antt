use Rattle.std.proofs.Common.{rules, ap, ap₂, codes, false, ◌≡◌, ◌∙◌, ◌||◌}
use Rattle.std.proofs.lemmas.Result.{IfOk-weaker}
use Rattle.clap.specs.Words.{App, app_of, new_app, with_rule, with_subcommand}
use Rattle.sva_command.specs.Command.{flag_rule, judge_app, most_rule}
use Rattle.sva_command.proofs.command.with_judge.Goals as goal

pub returns : goal.returns
returns c =
    let bare_is : app_of c.after_help-judge.result ≡ new_app (codes "judge") = search rules in
    let most_is : app_of c.in_ok-with_most.with_most ≡ with_rule (new_app (codes "judge")) most_rule =
    c.in_ok-with_most.ensures.shape c.most_option.ensures.local ∙ ap₂ with_rule bare_is c.most_option.ensures.rule in
    let run_is : app_of c.in_ok-with_run.with_run ≡ with_rule (with_rule (new_app (codes "judge")) most_rule) (flag_rule (codes "run")) =
    c.in_ok-with_run.ensures.shape c.flag.ensures.local ∙ ap₂ with_rule most_is c.flag.ensures.rule in
    let strict_is : app_of c.in_ok-with_strict.with_strict
    ≡ with_rule (with_rule (with_rule (new_app (codes "judge")) most_rule) (flag_rule (codes "run"))) (flag_rule (codes "strict")) =
    c.in_ok-with_strict.ensures.shape c.flag-2.ensures.local ∙ ap₂ with_rule run_is c.flag-2.ensures.rule in
    let told = c.in_ok-telling.ensures in
    let all_is = told.1.1.shape told.1.3 ∙ ap₂ with_rule strict_is told.1.2 in
    let needed_is = told.2.2.1.shape told.2.2.3 ∙ ap₂ with_rule all_is told.2.2.2 in
    let platforms_is = told.2.3.1.shape told.2.3.3 ∙ ap₂ with_rule needed_is told.2.3.2 in
    let judge_is : app_of c.in_ok-telling.telling ≡ judge_app = told.2.4.1.shape told.2.4.3 ∙ ap₂ with_rule platforms_is told.2.4.2 in
    IfOk-weaker c.subcommand.result _ _ (λ r added. added.shape
    (told.2.4.1.globals ∙ ap₂ ◌||◌ {y = false} (told.2.3.1.globals ∙ ap₂ ◌||◌ {y = false} (told.2.2.1.globals
    ∙ ap₂ ◌||◌ {y = false} (told.1.1.globals ∙ ap₂ ◌||◌ {y = false} (search rules) told.1.3) told.2.2.3) told.2.3.3) told.2.4.3)
    ∙ ap (λ (a : App). with_subcommand (app_of c.args.svahost) a.top) judge_is) c.subcommand.ensures
