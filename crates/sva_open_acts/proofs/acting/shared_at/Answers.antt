use Rattle.std.proofs.Common.{inl, inr, rules, ◌≡◌, false}
use Rattle.std.specs.Prelude.{◌&&◌}
use Rattle.std.specs.List.{list_any}
use Rattle.sva_open.specs.Below.{awaits_all, holds_up}
use Rattle.sva_open_acts.proofs.Shared.{quiet_step}
use Rattle.sva_open_acts.proofs.acting.shared_at.Goals as goal
use Rattle.sva_open_acts.proofs.acting.shared_at.Goals.{else-done-via-then-done+else-is_of_unit, else-done-via-else-done}

pub returns-else-done : goal.returns-else-done
returns-else-done c =
    let free : awaits_all c.args.act.now && list_any (holds_up c.args.now.now.units c.args.endpoint) c.args.now.now.parts ≡ false = search rules in
    elim c.else-done.branch [
      | else-done-via-then-done+else-is_of_unit w ↦
          quiet_step c.args.endpoint c.args.act.now c.args.now.now c.act_at.new.now c.in_ok-done.done free (inl (search rules)) c.in_ok-done.ensures
      | else-done-via-else-done w ↦
          quiet_step c.args.endpoint c.args.act.now c.args.now.now c.act_at.new.now c.in_ok-done.done free (inr (search rules)) c.in_ok-done.ensures
    ]
