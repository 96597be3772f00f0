use Rattle.std.proofs.Common.{◌∙◌, ◌++◌, ap}
use Rattle.sva_script.proofs.WordLemmas.{on_ok_by}
use Rattle.sva_driver_reports.specs.Reports.{within_text}
use Rattle.sva_driver_reports.proofs.Rests.{joined}
use Rattle.sva_driver_reports.proofs.notes.put_marked.Goals as goal

pub returns : goal.returns
returns c =
    on_ok_by c.put_within.result
    (λ put. joined _ _ _ _ _ c.in_ok-extend_from_slice.ensures.items
    (put
    ∙ ap (λ conduct. c.extend_from_slice.new.self.items
    ++ within_text c.args.lines.now c.args.endpoint c.args.device.now conduct) c.conduct_in.ensures))
    c.put_within.ensures
