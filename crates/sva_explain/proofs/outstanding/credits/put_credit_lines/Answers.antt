use Rattle.sva_lines.proofs.Lines.{both}
use Rattle.std.proofs.Common.{◌≡◌, ◌++◌, subst}
use Rattle.std.specs.Prelude.{OnOk}
use Rattle.sva_lines.specs.Pieces.{rows}
use Rattle.sva_snapshot.specs.Shown.{endpoint_shown}
use Rattle.sva_explain.specs.Units.{reset_if}
use Rattle.sva_explain.proofs.Chains.{joined}
use Rattle.sva_explain.specs.Tables.{due_if}
use Rattle.sva_explain.proofs.outstanding.credits.put_credit_lines.Goals as goal

pub returns : goal.returns
returns c =
    let old = c.args.out.now.items in
    let part = endpoint_shown c.args.part.now in
    let to_1 = joined old c.put_credit_line.new.out.items c.put_due.new.out.items _ _ c.in_ok-put_credit_line.ensures
    (subst (λ level. c.put_due.new.out.items ≡ c.put_credit_line.new.out.items
    ++ rows (due_if level c.args.snapshot.now c.args.endpoint part) 0 part.device.groups) c.below.ensures c.in_ok-put_due.ensures) in
    both c.put_reset_if.result old c.put_due.new.out.items c.put_reset_if.new.out.items _ _ to_1
    (subst (λ level. OnOk c.put_reset_if.result (c.put_reset_if.new.out.items ≡ c.put_due.new.out.items
    ++ reset_if level c.args.snapshot.now c.args.endpoint part)) c.below-2.ensures c.put_reset_if.ensures)
