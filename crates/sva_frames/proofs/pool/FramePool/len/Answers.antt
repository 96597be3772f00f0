use Rattle.std.proofs.Common.{◌<◌, ◌^◌, ℕ, sym, ap, subst, ◌∙◌, length}
use Rattle.sva_frames.proofs.Holdings.{length-holdings}
use Rattle.sva_frames.proofs.pool.FramePool.len.Goals as goal

pub returns-clause-len : goal.returns-clause-len
returns-clause-len c = c.len.ensures ∙ sym (length-holdings 0 c.self.inside.ledger c.self.inside.lanes.items) ∙ ap length c.self.view_is

pub returns-clause-few : goal.returns-clause-few
returns-clause-few c =
    subst (λ (n : ℕ). n < 2 ^ 32) (sym (length-holdings 0 c.self.inside.ledger c.self.inside.lanes.items) ∙ ap length c.self.view_is) c.self.invariant.few
