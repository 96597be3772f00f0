use Rattle.std.proofs.Common.{◌∙◌, ◌++◌, ap}
use Rattle.sva_judge.specs.Choices.{next_in}
use Rattle.sva_driver_texts.specs.Texts.{line_choice}
use Rattle.sva_driver_reports.specs.Witness.{event_of, told_if}
use Rattle.sva_driver_reports.proofs.Rests.{stepped}
use Rattle.sva_driver_reports.proofs.fronts.put_before.Goals as goal

pub returns : goal.returns
returns c =
    let text = c.args.text.now in
    let out = c.args.out.now.items in
    let choice = line_choice c.args.place in
    let taken = c.in_ok-taken.taken in
    let step = stepped (next_in text.driver c.args.spot.now choice) taken c.args.spot.now c.take.new.spot c.in_ok-taken.ensures in
    record {
      text = c.in_ok-put_taken.ensures ∙ ap (λ it. out ++ told_if taken it) c.in_ok-event.ensures
          ∙ ap (λ it. out ++ told_if it (event_of text c.args.spot.now choice)) step.0;
      spot = step.1;
    }
