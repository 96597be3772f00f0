use Rattle.std.proofs.Common.{sym, ap, ◌∙◌, slice_get}
use Rattle.sva_frames.specs.Chains.{first_of}
use Rattle.sva_frames.proofs.Tables.{first_is}
use Rattle.sva_frames.proofs.heads.Heads.first.Goals as goal

pub returns-in_err-place-in-Cookie-clause-first : goal.returns-in_err-place-in-Cookie-clause-first
returns-in_err-place-in-Cookie-clause-first c =
    rw (c.in-Cookie.is, ← c.self.view_is)
    (c.from_residual.ensures ∙ sym (ap (λ es. first_of es c.in-Cookie.cookie) (sym c.deref.ensures.0) ∙ c.in_err-place-in-Cookie.ensures.none))

pub returns-in_ok-place-in-Cookie-clause-first : goal.returns-in_ok-place-in-Cookie-clause-first
returns-in_ok-place-in-Cookie-clause-first c =
    rw (c.in-Cookie.is, ← c.self.view_is, c.deref-in-Cookie.ensures.0)
    (first_is c.self.inside.pending.items c.in-Cookie.cookie c.in_ok-place-in-Cookie.place c.in_ok-place-in-Cookie.ensures.some.0
    (record { cookie = 0; first = 0 }) c.self.invariant
    (ap (λ es. slice_get es c.in_ok-place-in-Cookie.place) (sym c.deref.ensures.0) ∙ c.in_ok-place-in-Cookie.ensures.some.1)
    c.in_ok-place-in-Cookie.ensures.some.2)
