use Rattle.std.proofs.Common.{◌∙◌, ◌++◌, [], ap, codes}
use Rattle.sva_driver_words.specs.Units.{units_text}
use Rattle.sva_driver_texts.specs.declared.kept.Text.{Text}
use Rattle.sva_driver_reports.specs.Witness.{befores, conducts_from, config_text, settings_text, workers_text}
use Rattle.sva_driver_reports.proofs.Rests.{joined}
use Rattle.sva_driver_reports.proofs.fronts.put_front.Goals as goal

pub returns : goal.returns
returns c =
    let out = c.args.out.now.items in
    let text = c.args.text.now in
    let said-1 = config_text text.config in
    let settings = settings_text text.driver.start.settings in
    let so_far-2 = joined out _ _ said-1 settings (c.in_ok-put_config.ensures ∙ ap (λ (t : Text). out ++ config_text t.config) c.text.view_is)
    (c.in_ok-put_settings.ensures ∙ ap (λ (t : Text). c.put_config.new.out.items ++ settings_text t.driver.start.settings) c.text.view_is) in
    let said-2 = said-1 ++ settings in
    let units = units_text text.driver.start.units [] (codes "\n") in
    let so_far-3 = joined out _ _ said-2 units so_far-2 (c.in_ok-put_units.ensures
    ∙ ap (λ its. c.put_settings.new.out.items ++ units_text its [] (codes "\n")) (c.as_slice.ensures.value
    ∙ ap (λ (t : Text). t.driver.start.units) c.text.view_is)) in
    let said-3 = said-2 ++ units in
    let workers = workers_text text.driver.workers in
    let so_far-4 = joined out _ _ said-3 workers so_far-3 (c.in_ok-put_workers.ensures
    ∙ ap (λ (t : Text). c.put_units.new.out.items ++ workers_text t.driver.workers) c.text.view_is) in
    let said-4 = said-3 ++ workers in
    let conducts = conducts_from 0 text.driver.start.parts in
    let so_far-5 = joined out _ _ said-4 conducts so_far-4 (c.in_ok-put_conducts.ensures
    ∙ ap (λ parts. c.put_workers.new.out.items ++ conducts_from 0 parts) (c.as_slice-2.ensures.value
    ∙ ap (λ (t : Text). t.driver.start.parts) c.text.view_is)) in
    let said-5 = said-4 ++ conducts in
    let before = befores text text.before in
    let so_far-6 = joined out _ _ said-5 before so_far-5 c.in_ok-put_befores.ensures in
    joined out _ _ (said-5 ++ before) (codes "# race\n") so_far-6 c.in_ok-extend_from_slice.ensures.items
