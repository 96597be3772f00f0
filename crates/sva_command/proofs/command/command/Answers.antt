use Rattle.std.proofs.Common.{ap, codes, ◌∙◌}
use Rattle.std.proofs.lemmas.Result.{IfOk-weaker}
use Rattle.clap.specs.Words.{App, Text, new_app, with_rule, with_subcommand}
use Rattle.sva_command.specs.Command.{flag_rule, judge_app, most_rule, turns_rule}
use Rattle.sva_command.proofs.command.command.Goals as goal

-- a program with a command more, that takes no arguments
abbrev with_bare : Text → App → App
with_bare name app = with_subcommand app (new_app name).top

abbrev with_storm : App → App
with_storm app = with_subcommand app (with_rule (new_app (codes "storm")) turns_rule).top

abbrev with_chart : App → App
with_chart app = with_subcommand app (with_rule (new_app (codes "chart")) (flag_rule (codes "svg"))).top

pub returns : goal.returns
returns c =
    let replaying_is = c.in_ok-replaying.ensures ∙ ap (with_bare (codes "replay")) c.in_ok-bare.ensures in
    let checking_is = c.in_ok-checking.ensures ∙ ap (with_bare (codes "check")) replaying_is in
    let storming_is = c.in_ok-storming.ensures ∙ ap with_storm checking_is in
    let plain_is = c.in_ok-plain_too.ensures ∙ ap (with_bare (codes "plain")) storming_is in
    let testing_is = c.in_ok-testing.ensures ∙ ap (with_bare (codes "test")) plain_is in
    let showing_is = c.in_ok-showing.ensures ∙ ap (with_bare (codes "show")) testing_is in
    let explaining_is = c.in_ok-explaining.ensures ∙ ap (with_bare (codes "why")) showing_is in
    let charting_is = c.in_ok-charting.ensures ∙ ap with_chart explaining_is in
    let exploring_is = c.in_ok-exploring.ensures
    ∙ ap (λ (a : App). with_subcommand a
    (with_rule (with_rule (with_rule (new_app (codes "explore")) most_rule) (flag_rule (codes "why"))) (flag_rule (codes "ends"))).top) charting_is in
    let judging_is = c.in_ok-judging.ensures
    ∙ ap (λ (a : App). with_subcommand a judge_app.top) exploring_is in
    IfOk-weaker c.with_trace.result _ _ (λ r added. added
    ∙ ap (λ (a : App). with_subcommand a (with_rule (with_rule (new_app (codes "trace")) (flag_rule (codes "live"))) (flag_rule (codes "why"))).top)
    judging_is) c.with_trace.ensures
