use Rattle.std.proofs.Common.{◌++◌, codes}
use Rattle.sva_driver_words.specs.Pieces.{and_number}
use Rattle.sva_driver_reports.specs.Findings.{of_endpoint}
use Rattle.sva_driver_reports.proofs.Rests.{joined}
use Rattle.sva_driver_reports.proofs.findings.put_joins.Goals as goal

pub returns : goal.returns
returns c =
    let out = c.args.out.now.items in
    let said-1 = of_endpoint c.args.endpoint in
    let so_far-2 = joined out _ _ said-1 (codes "a page request of PASID") c.in_ok-put_of.ensures c.in_ok-extend_from_slice.ensures.items in
    let said-2 = said-1 ++ codes "a page request of PASID" in
    let so_far-3 = joined out _ _ said-2 (and_number c.args.pasid) so_far-2 c.in_ok-put_one.ensures in
    let said-3 = said-2 ++ and_number c.args.pasid in
    let so_far-4 = joined out _ _ said-3 (codes " would join group") so_far-3 c.in_ok-extend_from_slice-2.ensures.items in
    let said-4 = said-3 ++ codes " would join group" in
    let so_far-5 = joined out _ _ said-4 (and_number c.args.index) so_far-4 c.in_ok-put_one-2.ensures in
    let said-5 = said-4 ++ and_number c.args.index in
    joined out _ _ said-5 (codes ", which isn't its own") so_far-5 c.in_ok-extend_from_slice-3.ensures.items
