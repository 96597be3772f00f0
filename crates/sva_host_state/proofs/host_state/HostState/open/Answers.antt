use Rattle.std.proofs.Common.{refl, sym, subst}
use Rattle.sva_host_state.proofs.Openings.{opened_seen, new_few, new_sound}
use Rattle.sva_host_state.proofs.Ports.{AllSound, IsFew}
use Rattle.sva_host_state.proofs.Staged.{none_staged}
use Rattle.sva_host_state.proofs.host_state.HostState.open.Goals as goal

pub returns : goal.returns
returns c =
    opened_seen c.args.config _ _ _ _ _ _ _ c.in_ok-open.ensures c.new.ensures c.in_ok-new_ports.ensures c.new-2.ensures refl refl refl

pub invariant_of-result : goal.invariant_of-result
invariant_of-result c = record {
  few = subst IsFew (sym c.in_ok-new_ports.ensures) (new_few c.args.config.endpoints c.requires.endpoints);
  sound = subst AllSound (sym c.in_ok-new_ports.ensures) (new_sound c.args.config.endpoints);
  staged = none_staged _ c.new.ensures;
}
