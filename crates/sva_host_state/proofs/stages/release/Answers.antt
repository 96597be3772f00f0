use Rattle.std.proofs.Common.{ap, ◌∙◌, ℕ}
use Rattle.sva_pasid.specs.States.{Numbers}
use Rattle.sva_pasid.specs.Places.{without}
use Rattle.sva_host_state.proofs.Moving.{goes}
use Rattle.sva_host_state.proofs.stages.release.Goals as goal

pub returns : goal.returns
returns c =
    let taken = rw c.in-Some-Quiet.field-0-is at c.in-Some-Quiet.ensures.awaits in
    goes c.args.binding c.args.bindings.now c.take.new.self c.end.new.self c.take.ensures.places
    (c.end.ensures ∙ ap (λ (b : ℕ). without b c.take.new.self) (ap (λ (n : Numbers). n.binding) c.release.ensures ∙ taken.0))
