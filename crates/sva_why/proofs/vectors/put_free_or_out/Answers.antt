use Rattle.sva_lines.proofs.Lines.{both}
use Rattle.std.proofs.Common.{◌≡◌, ◌++◌, subst}
use Rattle.std.specs.Prelude.{OnOk}
use Rattle.sva_snapshot.specs.Shown.{endpoint_shown}
use Rattle.sva_explain.specs.declared.blockers.link.Topic.TheVariants.{Itag}
use Rattle.sva_explain.specs.Link.{about_lines}
use Rattle.sva_explain.specs.Units.{reset_if}
use Rattle.sva_explain.proofs.Chains.{joined}
use Rattle.sva_why.proofs.vectors.put_free_or_out.Goals as goal

pub returns : goal.returns
returns c =
    let old = c.args.out.now.items in
    let to_1 = joined old c.put_not_pending_line.new.out.items c.put_about.new.out.items _ _ c.in_ok-put_not_pending_line.ensures
    (subst (λ level. c.put_about.new.out.items ≡ c.put_not_pending_line.new.out.items
    ++ about_lines level c.args.snapshot.now c.args.endpoint (Itag c.args.itag)) c.below.ensures c.in_ok-put_about.ensures) in
    both c.put_reset_if.result old c.put_about.new.out.items c.put_reset_if.new.out.items _ _ to_1
    (subst (λ level. OnOk c.put_reset_if.result (c.put_reset_if.new.out.items ≡ c.put_about.new.out.items
    ++ reset_if level c.args.snapshot.now c.args.endpoint (endpoint_shown c.args.part.now))) c.below-2.ensures c.put_reset_if.ensures)
