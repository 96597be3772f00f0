use Rattle.std.proofs.Common.{refl}
use Rattle.sva_endpoint.proofs.request_tags.RequestTag.doomed_by.Goals as goal

pub returns-in-Out : goal.returns-in-Out
returns-in-Out c = rw (c.in-Out.is, ← c.covers.ensures, c.if-covers.true) refl
