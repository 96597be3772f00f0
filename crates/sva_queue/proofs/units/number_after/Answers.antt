use Rattle.sva_queue.proofs.Cookies.{number_after-item}
use Rattle.sva_queue.proofs.units.number_after.Goals as goal

pub loop-descriptor-preserved : goal.loop-descriptor-preserved
loop-descriptor-preserved c =
    rw (c.number_after_one-number.ensures, c.loop-descriptor.invariant)
    (number_after-item c.args.descriptors.now c.loop-descriptor.descriptor-index c.args.first c.descriptor-item.result c.loop-descriptor-test.true
    c.descriptor-item.is)
