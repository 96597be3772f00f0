use Rattle.std.proofs.Common.{◌≡◌, ◌∙◌, ℕ, List, rules, not, inr, ap, sym, subst, refl}
use Rattle.sva_step.specs.declared.steps.Step.TheVariants.{Advance}
use Rattle.sva_fabric.specs.LoopTokens.{has_leaving}
use Rattle.sva_fabric.specs.Plays.{IsTry}
use Rattle.sva_fabric.proofs.Turns.{accepted_once, fault_try, taken_is}
use Rattle.sva_fabric.proofs.loops.hosting.advance.Goals as goal

pub returns-in-Ok-Again : goal.returns-in-Ok-Again
returns-in-Ok-Again g c =
    let same = taken_is c.args.leavings.now.items c.in-Some.place c.swap_remove-leaving.result (λ (leaving : ℕ). leaving ≡ c.args.binding) (search rules)
    c.swap_remove-leaving.ensures.value (search rules) in
    let moved = rw c.in-Ok-Again.field-0-is at c.in-Ok-Again.ensures.moved in
    λ leases. inr (
      ap not (sym (c.in-Some.ensures.is_there ∙ ap (λ (l : List ℕ). has_leaving c.args.binding l) c.as_slice.ensures.value)),
      accepted_once _ _ _ _ _ 0 0 _ moved.1.called (ap Advance same) refl,
    )

pub returns-in-Ok-Gone : goal.returns-in-Ok-Gone
returns-in-Ok-Gone g c =
    let same = taken_is c.args.leavings.now.items c.in-Some.place c.swap_remove-leaving.result (λ (leaving : ℕ). leaving ≡ c.args.binding) (search rules)
    c.swap_remove-leaving.ensures.value (search rules) in
    let moved = rw c.in-Ok-Gone.field-0-is at c.in-Ok-Gone.ensures.moved in
    λ leases. inr (
      ap not (sym (c.in-Some.ensures.is_there ∙ ap (λ (l : List ℕ). has_leaving c.args.binding l) c.as_slice.ensures.value)),
      accepted_once _ _ _ _ _ 0 0 _ moved (ap Advance same) refl,
    )

pub returns-in-Err : goal.returns-in-Err
returns-in-Err g c =
    let same = taken_is c.args.leavings.now.items c.in-Some.place c.swap_remove-leaving.result (λ (leaving : ℕ). leaving ≡ c.args.binding) (search rules)
    c.swap_remove-leaving.ensures.value (search rules) in
    λ leases. inr (
      ap not (sym (c.in-Some.ensures.is_there ∙ ap (λ (l : List ℕ). has_leaving c.args.binding l) c.as_slice.ensures.value)),
      subst (λ turn. IsTry g.C.Ledgers.config (Advance c.args.binding) c.args.port.now c.advance.new.port 0 0 turn) (sym c.turn_after.ensures)
          (fault_try g.C.Ledgers.config c.args.port.now c.advance.new.port (Advance c.swap_remove-leaving.result) (Advance c.args.binding)
          c.in-Err.fault 0 0 (search rules) (ap Advance same) refl),
    )
