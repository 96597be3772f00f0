use Rattle.std.proofs.Common.{◌≤◌, arith, ap, length}
use Rattle.sva_frames.proofs.Tables.{place_if_found}
use Rattle.sva_frames.proofs.heads.Heads.has_place.Goals as goal

pub returns-else-len-lt-PENDING-clause-place : goal.returns-else-len-lt-PENDING-clause-place
returns-else-len-lt-PENDING-clause-place c =
    let full : 64 ≤ length c.deref.result.now = omega (arith, ap length c.deref.ensures.0) in
    rw (c.is_some.ensures, c.in-Cookie.is, ← c.self.view_is, ← c.deref.ensures.0)
    (place_if_found c.deref.result.now c.in-Cookie.cookie c.place_of.result (rw c.deref.ensures.0 c.self.invariant) c.place_of.ensures.none
    c.place_of.ensures.some full)
