use Rattle.std.proofs.Common.{◌≡◌, List, Option, IfOk, ap, map, option_map, subst, sym, take, ◌∙◌}
use Rattle.std.proofs.lemmas.List.{take-map}
use Rattle.sva_model.specs.Wire.{JobWire}
use Rattle.sva_prq.specs.Job.{Job}
use Rattle.sva_parts_by_labels.specs.JobTable.{job_seen}
use Rattle.sva_snapshot.specs.Shown.{job_shown}
use Rattle.sva_snapshot.proofs.jobs.hands_of.Goals as goal

pub returns : goal.returns
returns c =
    subst (λ (hands : List (Option JobWire)). IfOk c.all_of.result (λ own. map (option_map job_shown) own.items ≡ hands))
    (ap (map (option_map job_seen)) (c.first_of.ensures ∙ ap (λ (hands : List (Option Job)). take c.args.workers hands) c.hands.ensures)
    ∙ sym (take-map (option_map job_seen) c.args.workers c.args.table.now.hands))
    c.all_of.ensures
