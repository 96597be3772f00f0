use Rattle.std.proofs.Common.{◌≡◌, ◌++◌, subst, sym}
use Rattle.std.specs.Prelude.{OnOk}
use Rattle.sva_parts_by_labels.specs.Device.{tag_seen}
use Rattle.sva_snapshot.specs.Shown.{endpoint_shown}
use Rattle.sva_explain.specs.Tags.{out_if}
use Rattle.sva_explain.proofs.limits.tags.put_out_if.Goals as goal

pub returns-in-Out : goal.returns-in-Out
returns-in-Out c =
    subst (λ place. OnOk c.put_out_second.result (c.put_out_second.new.out.items ≡ c.args.out.now.items
    ++ out_if c.args.snapshot.now c.args.endpoint (endpoint_shown c.args.part.now) c.args.tag (tag_seen place)))
    (sym c.in-Out.is) c.put_out_second.ensures

pub returns-in-Doomed : goal.returns-in-Doomed
returns-in-Doomed c =
    subst (λ place. OnOk c.put_out_second-in-Doomed.result (c.put_out_second-in-Doomed.new.out.items ≡ c.args.out.now.items
    ++ out_if c.args.snapshot.now c.args.endpoint (endpoint_shown c.args.part.now) c.args.tag (tag_seen place)))
    (sym c.in-Doomed.is) c.put_out_second-in-Doomed.ensures
