use Rattle.sva_lines.proofs.Lines.{both}
use Rattle.std.proofs.Common.{◌≡◌, ◌++◌, subst}
use Rattle.std.specs.Prelude.{OnOk}
use Rattle.sva_snapshot.specs.Shown.{endpoint_shown}
use Rattle.sva_explain.specs.Jobs.{on_its_way_lines}
use Rattle.sva_explain.proofs.outstanding.credits.put_due_lines.Goals as goal

pub returns : goal.returns
returns c =
    let old = c.args.out.now.items in
    both c.put_on_its_way.result old c.put_due_line.new.out.items c.put_on_its_way.new.out.items _ _ c.in_ok-put_due_line.ensures
    (subst (λ level. OnOk c.put_on_its_way.result (c.put_on_its_way.new.out.items ≡ c.put_due_line.new.out.items
    ++ on_its_way_lines level c.args.snapshot.now c.args.endpoint (endpoint_shown c.args.part.now) c.args.index)) c.below.ensures
    c.put_on_its_way.ensures)
