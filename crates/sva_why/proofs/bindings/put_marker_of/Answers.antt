use Rattle.sva_lines.proofs.Lines.{both}
use Rattle.std.proofs.Common.{◌≡◌, ◌++◌, subst}
use Rattle.std.specs.Prelude.{OnOk}
use Rattle.sva_snapshot.specs.Shown.{endpoint_shown}
use Rattle.sva_explain.specs.Tables.{busy_pasid_lines}
use Rattle.sva_why.specs.Bindings.{on_link_lines}
use Rattle.sva_explain.proofs.Chains.{joined}
use Rattle.sva_why.proofs.bindings.put_marker_of.Goals as goal

pub returns : goal.returns
returns c =
    let old = c.args.out.now.items in
    let to_1 = joined old c.put_marker_line.new.out.items c.put_on_link.new.out.items _ _ c.in_ok-put_marker_line.ensures
    (subst (λ level. c.put_on_link.new.out.items ≡ c.put_marker_line.new.out.items
    ++ on_link_lines level c.args.snapshot.now c.args.endpoint c.args.pasid) c.below.ensures c.in_ok-put_on_link.ensures) in
    both c.put_busy_pasid.result old c.put_on_link.new.out.items c.put_busy_pasid.new.out.items _ _ to_1
    (subst (λ level. OnOk c.put_busy_pasid.result (c.put_busy_pasid.new.out.items ≡ c.put_on_link.new.out.items
    ++ busy_pasid_lines level c.args.snapshot.now c.args.endpoint (endpoint_shown c.args.part.now) c.args.pasid)) c.below-2.ensures c.put_busy_pasid.ensures)
