use Rattle.std.proofs.Common.{refl}
use Rattle.sva_host.proofs.Openings.{opened_seen, opened}
use Rattle.sva_host.proofs.host.Host.open.Goals as goal

pub returns : goal.returns
returns c = opened_seen _ c.args.config c.requires.workers c.in_ok-open.ensures c.new.ensures refl

pub invariant_of-result : goal.invariant_of-result
invariant_of-result c = opened _ c.args.config c.requires.workers c.in_ok-open.ensures c.new.ensures refl
