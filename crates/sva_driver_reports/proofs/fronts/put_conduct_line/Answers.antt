use Rattle.std.proofs.Common.{◌∙◌, ◌++◌, ap, codes}
use Rattle.sva_open.specs.World.{Part}
use Rattle.sva_driver_words.specs.Pieces.{with_endpoint}
use Rattle.sva_driver_reports.specs.Witness.{said_if}
use Rattle.sva_driver_reports.proofs.Rests.{joined}
use Rattle.sva_driver_reports.proofs.fronts.put_conduct_line.Goals as goal

pub returns : goal.returns
returns c =
    let out = c.args.out.now.items in
    let said-1 = with_endpoint (codes "device") c.args.endpoint in
    let lies = said_if c.args.part.now.lies (codes " lies") in
    let so_far-2 = joined out _ _ said-1 lies c.in_ok-put_endpoint.ensures (c.in_ok-put_if.ensures
    ∙ ap (λ (p : Part). c.put_endpoint.new.out.items ++ said_if p.lies (codes " lies")) c.part.view_is) in
    let said-2 = said-1 ++ lies in
    let awaits = said_if c.args.part.now.awaits (codes " awaits") in
    let so_far-3 = joined out _ _ said-2 awaits so_far-2 (c.in_ok-put_if-2.ensures
    ∙ ap (λ (p : Part). c.put_if.new.out.items ++ said_if p.awaits (codes " awaits")) c.part.view_is) in
    let said-3 = said-2 ++ awaits in
    joined out _ _ said-3 (codes "\n") so_far-3 c.in_ok-extend_from_slice.ensures.items
