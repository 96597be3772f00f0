use Rattle.std.proofs.Common.{◌≡◌, ◌∙◌, List, rules, not, inr, ap, sym, subst, refl}
use Rattle.sva_step.specs.declared.steps.Step.TheVariants.{Unbind}
use Rattle.sva_fabric.specs.TokenNumbers.{LeaseNumbers}
use Rattle.sva_fabric.specs.LoopTokens.{has_lease}
use Rattle.sva_fabric.specs.Plays.{IsTry}
use Rattle.sva_fabric.proofs.Turns.{accepted_once, fault_try, taken_is}
use Rattle.sva_fabric.proofs.loops.hosting.unbind.Goals as goal

pub returns-then-is_err : goal.returns-then-is_err
returns-then-is_err g c =
    inr (
      ap not (sym (c.in-Some.ensures.is_there ∙ ap (λ (l : List LeaseNumbers). has_lease c.args.binding l) c.as_slice.ensures.value)),
      (refl, refl),
    )

pub returns-in-Ok : goal.returns-in-Ok
returns-in-Ok g c =
    let same = taken_is c.args.leases.now.items c.in-Some.place c.swap_remove-lease.result (λ (lease : LeaseNumbers). lease.binding ≡ c.args.binding)
    (search rules) c.swap_remove-lease.ensures.value (search rules) in
    inr (
      ap not (sym (c.in-Some.ensures.is_there ∙ ap (λ (l : List LeaseNumbers). has_lease c.args.binding l) c.as_slice.ensures.value)),
      accepted_once _ _ _ _ _ 0 0 _ c.in-Ok.ensures.leaving.1.called (ap Unbind same) refl,
    )

pub returns-in-Err : goal.returns-in-Err
returns-in-Err g c =
    let same = taken_is c.args.leases.now.items c.in-Some.place c.swap_remove-lease.result (λ (lease : LeaseNumbers). lease.binding ≡ c.args.binding)
    (search rules) c.swap_remove-lease.ensures.value (search rules) in
    inr (
      ap not (sym (c.in-Some.ensures.is_there ∙ ap (λ (l : List LeaseNumbers). has_lease c.args.binding l) c.as_slice.ensures.value)),
      subst (λ turn. IsTry g.C.Ledgers.config (Unbind c.args.binding) c.args.port.now c.unbind.new.port 0 0 turn) (sym c.turn_after.ensures)
          (fault_try g.C.Ledgers.config c.args.port.now c.unbind.new.port (Unbind c.swap_remove-lease.result.binding) (Unbind c.args.binding)
          c.in-Err.fault 0 0 (search rules) (ap Unbind same) refl),
    )
