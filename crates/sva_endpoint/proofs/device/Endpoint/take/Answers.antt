use Rattle.std.proofs.Common.{sym, ap, ◌∙◌}
use Rattle.sva_msg.specs.declared.extents.Extent.{Extent}
use Rattle.sva_endpoint.specs.Deliveries.{after_receive, after_invalidate}
use Rattle.sva_endpoint.proofs.device.Endpoint.take.Goals as goal

-- what is taken is the extent that the message's scope names
pub returns-in-Invalidate-clause-after : goal.returns-in-Invalidate-clause-after
returns-in-Invalidate-clause-after c =
    c.invalidate.ensures.after
    ∙ ap (λ (x : Extent). after_invalidate c.args.self.now c.in-Invalidate.itag (record { pasid = c.in-Invalidate.pasid; extent = x })) c.of.ensures
    ∙ sym (ap (after_receive c.args.self.now) c.in-Invalidate.is)
