use Rattle.sva_lines.proofs.Lines.{both}
use Rattle.std.proofs.Common.{◌≡◌, ◌++◌, subst}
use Rattle.std.specs.Prelude.{OnOk}
use Rattle.sva_snapshot.specs.Shown.{device_shown, endpoint_shown}
use Rattle.sva_explain.specs.Tables.{credit_if, disabled_if}
use Rattle.sva_explain.proofs.Chains.{joined}
use Rattle.sva_explain.proofs.outstanding.tables.put_unfinished_group.Goals as goal

pub returns : goal.returns
returns c =
    let old = c.args.out.now.items in
    let to_1 = joined old c.put_unfinished_line.new.out.items c.put_disabled.new.out.items _ _ c.in_ok-put_unfinished_line.ensures
    (subst (λ level. c.put_disabled.new.out.items ≡ c.put_unfinished_line.new.out.items
    ++ disabled_if level c.args.snapshot.now c.args.endpoint (device_shown c.args.part.now.device)) c.below.ensures c.in_ok-put_disabled.ensures) in
    both c.put_credit.result old c.put_disabled.new.out.items c.put_credit.new.out.items _ _ to_1
    (subst (λ level. OnOk c.put_credit.result (c.put_credit.new.out.items ≡ c.put_disabled.new.out.items
    ++ credit_if level c.args.snapshot.now c.args.endpoint (endpoint_shown c.args.part.now))) c.below-2.ensures c.put_credit.ensures)
