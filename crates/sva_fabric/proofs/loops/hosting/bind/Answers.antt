use Rattle.std.proofs.Common.{◌≡◌, sym, subst, refl}
use Rattle.sva_step.specs.declared.steps.Step.TheVariants.{Bind}
use Rattle.sva_fabric.specs.Plays.{IsTry}
use Rattle.sva_fabric.proofs.Turns.{accepted_once, fault_try}
use Rattle.sva_fabric.proofs.loops.hosting.bind.Goals as goal

pub returns-in-Ok : goal.returns-in-Ok
returns-in-Ok g c = accepted_once _ _ _ _ _ 0 0 _ c.in-Ok.ensures.bound refl refl

pub returns-in-Err : goal.returns-in-Err
returns-in-Err g c =
    subst (λ turn. IsTry g.C.Ledgers.config (Bind c.args.endpoint c.args.space) c.args.port.now c.bind.new.port 0 0 turn) (sym c.turn_after.ensures)
    (fault_try g.C.Ledgers.config c.args.port.now c.bind.new.port (Bind c.args.endpoint c.args.space) (Bind c.args.endpoint c.args.space)
    c.in-Err.fault 0 0 c.in-Err.ensures.fault refl refl)
