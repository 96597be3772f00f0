use Rattle.std.proofs.Common.{◌≡◌, ap, sym, ◌∙◌}
use Rattle.std.specs.Prelude.{Some}
use Rattle.sva_itags.specs.Tags.{lowest_free}
use Rattle.sva_queue.specs.declared.descriptors.Pumped.TheVariants.{Issued}
use Rattle.sva_queue.specs.Queue.{Queue, next_of}
use Rattle.sva_queue.proofs.Kept.{pump-in_order}
use Rattle.sva_queue.proofs.Waits.{issued_lowest}
use Rattle.sva_queue.proofs.units.Unit.send.Goals as goal

pub take_lowest-requires : goal.take_lowest-requires
take_lowest-requires c =
    ap (λ (q : Queue). lowest_free q.tags) c.self.view_is
    ∙ issued_lowest c.args.self.now c.requires.0 c.args.itag c.args.self.now.descriptors c.requires.1

pub invariant_of-self : goal.invariant_of-self
invariant_of-self c =
    let q = c.self.inside in
    let queue : Queue = record { descriptors = q.queue; is_open = q.is_open; tags = q.tags; front = q.front; back = q.back } in
    let is : next_of queue c.requires.0 ≡ Issued c.args.itag = ap (λ (k : Queue). next_of k c.requires.0) c.self.view_is ∙ c.requires.1 in
    rw (c.drop_first.ensures, c.take_lowest.ensures) (pump-in_order (Issued c.args.itag) queue c.requires.0 is c.self.invariant)
