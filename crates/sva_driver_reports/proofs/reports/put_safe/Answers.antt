use Rattle.std.proofs.Common.{◌∙◌, ◌++◌, ap, codes}
use Rattle.sva_driver_reports.specs.Limits.{limits_text}
use Rattle.sva_driver_reports.specs.Nevers.{is_tried, nevers_text}
use Rattle.sva_driver_reports.specs.Reports.{budgets_text, safe_line}
use Rattle.sva_driver_reports.proofs.Rests.{joined}
use Rattle.sva_driver_reports.proofs.reports.put_safe.Goals as goal

pub returns : goal.returns
returns c =
    let out = c.args.out.now.items in
    let text = c.args.text.now in
    let said-1 = safe_line c.args.moments c.args.is_apart (is_tried c.args.looked.now) in
    let so_far-1 = c.in_ok-put_safe_line.ensures ∙ ap (λ tried. out ++ safe_line c.args.moments c.args.is_apart tried) c.is_tried.ensures in
    let so_far-2 = joined out _ _ said-1 (budgets_text (codes "") text) so_far-1 c.in_ok-put_budgets.ensures in
    let said-2 = said-1 ++ budgets_text (codes "") text in
    let so_far-3 = joined out _ _ said-2 (limits_text text) so_far-2 c.in_ok-put_limits.ensures in
    let said-3 = said-2 ++ limits_text text in
    joined out _ _ said-3 (nevers_text text c.args.looked.now) so_far-3 c.in_ok-put_nevers.ensures
