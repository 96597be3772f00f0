use Rattle.sva_itags.proofs.Exact.{freed_exactly}
use Rattle.sva_itags.proofs.itags.Itags.arrived.Goals as goal

pub returns-clause-exactly : goal.returns-clause-exactly
returns-clause-exactly c =
    λ t. rw (c.complete_places.ensures.freed, c.deref_mut.ensures.value, ← c.self.view_is)
    (freed_exactly c.args.vector c.args.count c.self.inside.places.items t)
