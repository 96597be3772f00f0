use Rattle.std.proofs.Common.{ap, sym, ◌∙◌, slice_get, length, ◌-◌}
use Rattle.sva_frames.proofs.Tables.{last_first}
use Rattle.sva_frames.proofs.heads.Heads.any.Goals as goal

pub returns-in-Some-clause-some : goal.returns-in-Some-clause-some
returns-in-Some-clause-some c =
    let last = c.in-Some.ensures.some in
    rw (← c.self.view_is)
    (last_first c.self.inside.pending.items (length c.deref.result.now - 1) c.in-Some.cookie last.0 c.self.invariant
    (ap (λ es. slice_get es (length c.deref.result.now - 1)) (sym c.deref.ensures.0) ∙ last.1) last.2)
