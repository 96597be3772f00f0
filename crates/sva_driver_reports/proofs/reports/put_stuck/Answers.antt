use Rattle.std.proofs.Common.{◌∙◌, ◌++◌, ap, codes, length}
use Rattle.sva_judge.specs.Spots.{Spot}
use Rattle.sva_driver_reports.specs.Reports.{behind, budgets_text, events_by, events_count, others_text, parts_from}
use Rattle.sva_driver_reports.specs.Reports.{waiting_text, witness_by}
use Rattle.sva_driver_reports.proofs.Rests.{joined}
use Rattle.sva_driver_reports.proofs.reports.put_stuck.Goals as goal

pub returns : goal.returns
returns c =
    let out = c.args.out.now.items in
    let text = c.args.text.now in
    let choices = c.args.choices.now in
    let said-1 = codes "stuck in " in
    let so_far-2 = joined out _ _ said-1 (events_count (length c.args.choices.now)) c.in_ok-extend_from_slice.ensures.items c.in_ok-put_event_count.ensures in
    let said-2 = said-1 ++ events_count (length c.args.choices.now) in
    let so_far-3 = joined out _ _ said-2 (codes ": ") so_far-2 c.in_ok-extend_from_slice-2.ensures.items in
    let said-3 = said-2 ++ codes ": " in
    let so_far-4 = joined out _ _ said-3 (waiting_text text (behind text choices)) so_far-3 (c.in_ok-put_waiting.ensures
    ∙ ap (λ (spot : Spot). c.extend_from_slice-2.new.self.items ++ waiting_text text spot) c.in_ok-events.ensures.spot) in
    let said-4 = said-3 ++ waiting_text text (behind text choices) in
    let others = others_text text (behind text choices) in
    let so_far-5 = joined out _ _ said-4 (codes "\n" ++ others) so_far-4
    (joined c.put_waiting.new.out.items _ _ (codes "\n") others c.in_ok-extend_from_slice-3.ensures.items
    (c.in_ok-put_others.ensures
    ∙ ap (λ (spot : Spot). c.extend_from_slice-3.new.self.items ++ others_text text spot)
    c.in_ok-events.ensures.spot)) in
    let said-5 = said-4 ++ (codes "\n" ++ others) in
    let parts = parts_from 0 (behind text choices).world.parts in
    let so_far-6 = joined out _ _ said-5 parts so_far-5 (c.in_ok-put_state.ensures
    ∙ ap (λ (spot : Spot). c.put_others.new.out.items ++ parts_from 0 spot.world.parts) c.in_ok-events.ensures.spot) in
    let said-6 = said-5 ++ parts in
    let so_far-7 = joined out _ _ said-6 (budgets_text (codes "# ") text) so_far-6 c.in_ok-put_budgets.ensures in
    let said-7 = said-6 ++ budgets_text (codes "# ") text in
    joined out _ _ said-7 (witness_by text (events_by text choices)) so_far-7 (c.in_ok-put_witness.ensures
    ∙ ap (λ events. c.put_budgets.new.out.items ++ witness_by text events) (c.as_slice.ensures.value ∙ c.in_ok-events.ensures.events))
