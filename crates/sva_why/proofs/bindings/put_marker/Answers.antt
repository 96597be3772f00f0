use Rattle.std.proofs.Common.{◌≡◌, ◌++◌, subst}
use Rattle.std.specs.Prelude.{OnOk}
use Rattle.sva_snapshot.specs.Shown.{binding_shown, endpoint_shown}
use Rattle.sva_why.specs.Bindings.{marker_of_lines}
use Rattle.sva_why.proofs.bindings.put_marker.Goals as goal

pub returns : goal.returns
returns c =
    subst (λ pasid. OnOk c.put_marker_of.result (c.put_marker_of.new.out.items ≡ c.args.out.now.items
    ++ marker_of_lines c.args.level c.args.snapshot.now (binding_shown c.args.binding.now).endpoint pasid (endpoint_shown c.args.part.now)))
    c.from.ensures c.put_marker_of.ensures
