use Rattle.std.proofs.Common.{◌≡◌, ◌++◌, OnOk, subst}
use Rattle.sva_lines.proofs.Lines.{both}
use Rattle.sva_race_reports.specs.Kinds.{Kinds, kinds_text, left_out_if}
use Rattle.sva_race_reports.proofs.telling.put_end_texts.Goals as goal

pub returns : goal.returns
returns c =
    let short = c.args.few_ends in
    let out = c.args.out.now.items in
    let lines = c.put_lines.new.out.items in
    let last = c.put_left_out_if in
    subst (λ (kinds : Kinds). OnOk last.result (last.new.out.items ≡ out ++ kinds_text short kinds)) c.in_ok-kinds.ensures
    (both last.result out lines last.new.out.items _ _ c.in_ok-put_lines.ensures
    (subst (λ n. OnOk last.result (last.new.out.items ≡ lines ++ left_out_if short n)) c.len.ensures last.ensures))
