use Rattle.std.proofs.Common.{◌∙◌, ◌++◌, ap, codes, length}
use Rattle.sva_open_safe.specs.Wrongs.{first_wrong}
use Rattle.sva_judge.specs.Spots.{Spot}
use Rattle.sva_driver_reports.specs.Reports.{behind, events_by, events_count, finding_text, witness_by}
use Rattle.sva_driver_reports.proofs.Rests.{joined}
use Rattle.sva_driver_reports.proofs.reports.put_unsafe.Goals as goal

pub returns : goal.returns
returns c =
    let out = c.args.out.now.items in
    let text = c.args.text.now in
    let choices = c.args.choices.now in
    let said-1 = codes "unsafe in " in
    let so_far-2 = joined out _ _ said-1 (events_count (length c.args.choices.now)) c.in_ok-extend_from_slice.ensures.items c.in_ok-put_event_count.ensures in
    let said-2 = said-1 ++ events_count (length c.args.choices.now) in
    let so_far-3 = joined out _ _ said-2 (codes ": ") so_far-2 c.in_ok-extend_from_slice-2.ensures.items in
    let said-3 = said-2 ++ codes ": " in
    let so_far-4 = joined out _ _ said-3 (finding_text (first_wrong (behind text choices).world)) so_far-3 (c.in_ok-put_finding.ensures
    ∙ ap (λ (spot : Spot). c.extend_from_slice-2.new.self.items ++ finding_text (first_wrong spot.world)) c.in_ok-events.ensures.spot) in
    let said-4 = said-3 ++ finding_text (first_wrong (behind text choices).world) in
    joined out _ _ said-4 ((codes "\n" ++ witness_by text (events_by text choices))) so_far-4
    (joined c.put_finding.new.out.items _ _ (codes "\n") (witness_by text (events_by text choices)) c.in_ok-extend_from_slice-3.ensures.items
    (c.in_ok-put_witness.ensures ∙ ap (λ events. c.extend_from_slice-3.new.self.items ++ witness_by text events) (c.as_slice.ensures.value
    ∙ c.in_ok-events.ensures.events)))
