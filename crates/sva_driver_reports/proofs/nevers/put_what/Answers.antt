use Rattle.std.proofs.Common.{codes}
use Rattle.sva_driver_words.specs.Pieces.{with_endpoint}
use Rattle.sva_driver_reports.proofs.Rests.{joined}
use Rattle.sva_driver_reports.proofs.nevers.put_what.Goals as goal

pub returns : goal.returns
returns c =
    joined c.args.out.now.items _ _ (with_endpoint (codes "never: endpoint") c.args.endpoint) c.args.what.now c.in_ok-put_endpoint.ensures
    c.in_ok-extend_from_slice.ensures.items
