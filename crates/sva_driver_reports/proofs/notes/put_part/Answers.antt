use Rattle.sva_open.specs.World.{Part}
use Rattle.std.proofs.Common.{◌∙◌, ◌++◌, ap}
use Rattle.sva_driver_reports.specs.Reports.{failed, groups_from, off_text, rows_from, stalled_text, turned_at}
use Rattle.sva_driver_reports.proofs.Rests.{joined}
use Rattle.sva_driver_reports.proofs.notes.put_part.Goals as goal

pub returns : goal.returns
returns c =
    let out = c.args.out.now.items in
    let endpoint = c.args.endpoint in
    let part = c.args.part.now in
    let said-1 = rows_from endpoint 0 part.rows in
    let so_far-2 = joined out _ _ said-1 (groups_from endpoint 0 part.groups) (c.in_ok-put_rows.ensures
    ∙ ap (λ rows. out ++ rows_from endpoint 0 rows) (c.as_slice.ensures.value
    ∙ ap (λ (p : Part). p.rows) c.part.view_is)) (c.in_ok-put_groups.ensures
    ∙ ap (λ groups. c.put_rows.new.out.items ++ groups_from endpoint 0 groups) (c.as_slice-2.ensures.value
    ∙ ap (λ (p : Part). p.groups) c.part.view_is)) in
    let said-2 = said-1 ++ groups_from endpoint 0 part.groups in
    let so_far-3 = joined out _ _ said-2 (off_text endpoint part.is_enabled failed) so_far-2 (c.in_ok-put_off.ensures
    ∙ ap (λ (p : Part). c.put_groups.new.out.items ++ off_text endpoint p.is_enabled failed) c.part.view_is) in
    let said-3 = said-2 ++ off_text endpoint part.is_enabled failed in
    let so_far-4 = joined out _ _ said-3 (turned_at endpoint part) so_far-3 (c.in_ok-put_turned.ensures
    ∙ ap (λ (p : Part). c.put_off.new.out.items ++ turned_at endpoint p) c.part.view_is) in
    let said-4 = said-3 ++ turned_at endpoint part in
    joined out _ _ said-4 (stalled_text endpoint part.is_stalled) so_far-4 (c.in_ok-put_stalled.ensures
    ∙ ap (λ (p : Part). c.put_turned.new.out.items ++ stalled_text endpoint p.is_stalled) c.part.view_is)
