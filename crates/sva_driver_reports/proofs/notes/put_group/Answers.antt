use Rattle.std.proofs.Common.{◌∙◌, ◌++◌, ap, codes, sym}
use Rattle.sva_driver_words.specs.Pieces.{and_number, with_endpoint}
use Rattle.sva_driver_reports.specs.Reports.{finished_text, group_text}
use Rattle.sva_driver_reports.proofs.Rests.{joined}
use Rattle.sva_driver_reports.proofs.notes.put_group.Goals as goal

pub returns : goal.returns
returns c =
    let out = c.args.out.now.items in
    let said-1 = with_endpoint (codes "# endpoint") c.args.endpoint in
    let so_far-2 = joined out _ _ said-1 (codes " has group") c.in_ok-put_endpoint.ensures c.in_ok-extend_from_slice.ensures.items in
    let said-2 = said-1 ++ codes " has group" in
    let so_far-3 = joined out _ _ said-2 (and_number c.args.index) so_far-2 c.in_ok-put_one.ensures in
    let said-3 = said-2 ++ and_number c.args.index in
    let so_far-4 = joined out _ _ said-3 (codes " of PASID") so_far-3 c.in_ok-extend_from_slice-2.ensures.items in
    let said-4 = said-3 ++ codes " of PASID" in
    let so_far-5 = joined out _ _ said-4 (and_number c.in-Some.group.pasid) so_far-4 c.in_ok-put_one-2.ensures in
    let said-5 = said-4 ++ and_number c.in-Some.group.pasid in
    joined out _ _ said-5 (finished_text c.in-Some.group.is_finished) so_far-5 (c.in_ok-extend_from_slice-3.ensures.items
    ∙ ap (λ l. c.put_one-2.new.out.items ++ l) (c.as_bytes.ensures.value ∙ c.finished_text.ensures))
    ∙ ap (λ group. out ++ group_text c.args.endpoint c.args.index group) (sym c.in-Some.is)
