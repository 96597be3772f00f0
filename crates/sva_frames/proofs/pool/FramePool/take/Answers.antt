use Rattle.std.proofs.Common.{set, sym, ap, ◌∙◌}
use Rattle.sva_frames.specs.Frames.{Mapped}
use Rattle.sva_frames.specs.Pool.{holdings_from}
use Rattle.sva_frames.proofs.Taking.{position_same, taken-invariant, taken-frames, taken-mapped}
use Rattle.sva_frames.proofs.pool.FramePool.take.Goals as goal

pub returns-in_err-number-clause-lowest : goal.returns-in_err-number-clause-lowest
returns-in_err-number-clause-lowest c =
    rw (← c.self.view_is)
    (c.from_residual.ensures ∙ sym c.in_err-number.was ∙ c.first_free.ensures ∙ sym (position_same c.self.inside.ledger c.self.inside.lanes.items))

pub invariant_of-self : goal.invariant_of-self
invariant_of-self c =
    rw c.set.ensures (taken-invariant c.self.inside.ledger c.self.inside.lanes.items c.in_ok-number.number c.self.invariant (sym c.in_ok-number.was
    ∙ c.first_free.ensures))

pub returns-clause-lowest : goal.returns-clause-lowest
returns-clause-lowest c =
    rw (← c.self.view_is) (sym c.in_ok-number.was ∙ c.first_free.ensures ∙ sym (position_same c.self.inside.ledger c.self.inside.lanes.items))

pub returns-clause-after : goal.returns-clause-after
returns-clause-after c =
    ap (λ ss. holdings_from 0 ss c.self.inside.lanes.items) c.set.ensures
    ∙ taken-frames c.self.inside.ledger c.self.inside.lanes.items c.in_ok-number.number
    ∙ ap (λ hs. set hs c.in_ok-number.number Mapped) c.self.view_is

pub returns-clause-mapped : goal.returns-clause-mapped
returns-clause-mapped c =
    rw c.set.ensures
    (taken-mapped c.self.inside.ledger c.self.inside.lanes.items c.in_ok-number.number (sym c.in_ok-number.was ∙ c.first_free.ensures))
