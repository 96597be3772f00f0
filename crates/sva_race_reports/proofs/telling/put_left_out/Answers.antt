use Rattle.std.proofs.Common.{[], ◌∷◌, ◌++◌, codes, decimal}
use Rattle.sva_lines.proofs.Lines.{both}
use Rattle.sva_race_reports.proofs.Rows.{if_well}
use Rattle.sva_race_reports.proofs.telling.put_left_out.Goals as goal

pub returns : goal.returns
returns c =
    let last = c.extend_from_slice-2 in
    let said = c.extend_from_slice.new.self.items in
    let counted = c.put_number.new.out.items in
    both last.result c.args.out.now.items said last.new.self.items (codes "ends left out: ") (decimal c.args.count ++ 10 ∷ [])
    c.in_ok-extend_from_slice.ensures.items
    (both last.result said counted last.new.self.items (decimal c.args.count) (10 ∷ []) c.in_ok-put_number.ensures
    (if_well last.result counted last.new.self.items (counted ++ 10 ∷ []) last.ensures.items))
