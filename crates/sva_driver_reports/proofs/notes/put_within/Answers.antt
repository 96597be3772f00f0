use Rattle.std.proofs.Common.{◌++◌, codes}
use Rattle.sva_driver_words.specs.Pieces.{counted_text, with_endpoint}
use Rattle.sva_driver_reports.specs.Reports.{unmade_text}
use Rattle.sva_driver_reports.specs.Witness.{said_if}
use Rattle.sva_driver_reports.proofs.Rests.{joined}
use Rattle.sva_driver_reports.proofs.notes.put_within.Goals as goal

pub returns : goal.returns
returns c =
    let out = c.args.out.now.items in
    let said-1 = with_endpoint (codes "within endpoint") c.args.endpoint in
    let so_far-2 = joined out _ _ said-1 (codes ": ") c.in_ok-put_endpoint.ensures c.in_ok-extend_from_slice.ensures.items in
    let said-2 = said-1 ++ codes ": " in
    let so_far-3 = joined out _ _ said-2 (counted_text c.args.device.now.budget.asks (codes "ask") (codes "asks")) so_far-2 c.in_ok-put_counted.ensures in
    let said-3 = said-2 ++ counted_text c.args.device.now.budget.asks (codes "ask") (codes "asks") in
    let so_far-4 = joined out _ _ said-3 (codes ", ") so_far-3 c.in_ok-extend_from_slice-2.ensures.items in
    let said-4 = said-3 ++ codes ", " in
    let so_far-5 = joined out _ _ said-4 (counted_text c.args.device.now.budget.uses (codes "use") (codes "uses")) so_far-4 c.in_ok-put_counted-2.ensures in
    let said-5 = said-4 ++ counted_text c.args.device.now.budget.uses (codes "use") (codes "uses") in
    let so_far-6 = joined out _ _ said-5 (codes ", ") so_far-5 c.in_ok-extend_from_slice-3.ensures.items in
    let said-6 = said-5 ++ codes ", " in
    let so_far-7 = joined out _ _ said-6 (counted_text c.args.device.now.budget.faults (codes "fault")
    (codes "faults")) so_far-6 c.in_ok-put_counted-3.ensures in
    let said-7 = said-6 ++ counted_text c.args.device.now.budget.faults (codes "fault") (codes "faults") in
    let so_far-8 = joined out _ _ said-7 (said_if c.args.device.now.evicts (codes ", evicts")) so_far-7 c.in_ok-put_if.ensures in
    let said-8 = said-7 ++ said_if c.args.device.now.evicts (codes ", evicts") in
    let so_far-9 = joined out _ _ said-8 (said_if c.args.device.now.is_silent (codes ", silent")) so_far-8 c.in_ok-put_if-2.ensures in
    let said-9 = said-8 ++ said_if c.args.device.now.is_silent (codes ", silent") in
    let lies = said_if c.args.conduct.lies (codes ", lies") in
    let so_far-10 = joined out _ _ said-9 lies so_far-9 c.in_ok-put_if-3.ensures in
    let said-10 = said-9 ++ lies in
    let awaits = said_if c.args.conduct.awaits (codes ", awaits") in
    let so_far-11 = joined out _ _ said-10 awaits so_far-10 c.in_ok-put_if-4.ensures in
    let said-11 = said-10 ++ awaits in
    let leaves = said_if c.args.device.now.leaves (codes ", leaves") in
    let so_far-12 = joined out _ _ said-11 leaves so_far-11 c.in_ok-put_if-5.ensures in
    let said-12 = said-11 ++ leaves in
    let unmade = unmade_text c.args.lines.now c.args.endpoint c.args.device.now in
    let so_far-13 = joined out _ _ said-12 unmade so_far-12 c.in_ok-put_unmade.ensures in
    let said-13 = said-12 ++ unmade in
    joined out _ _ said-13 (codes "\n") so_far-13 c.in_ok-extend_from_slice-4.ensures.items
