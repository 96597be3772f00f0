use Rattle.std.proofs.Common.{◌≡◌, ◌++◌, subst}
use Rattle.std.specs.Prelude.{OnOk}
use Rattle.sva_snapshot.specs.Shown.{binding_shown, endpoint_shown}
use Rattle.sva_explain.specs.Units.{room_lines}
use Rattle.sva_why.proofs.bindings.put_full.Goals as goal

pub returns : goal.returns
returns c =
    subst (λ needed. OnOk c.put_room.result (c.put_room.new.out.items ≡ c.args.out.now.items
    ++ room_lines c.args.level c.args.snapshot.now (binding_shown c.args.binding.now).endpoint (endpoint_shown c.args.part.now) needed))
    c.descriptors_of.ensures c.put_room.ensures
