use Rattle.sva_driver_reports.specs.Witness.{pairs_text, unpaired_text}
use Rattle.sva_driver_reports.proofs.Rests.{joined}
use Rattle.sva_driver_reports.proofs.fronts.put_settings.Goals as goal

pub returns : goal.returns
returns c =
    joined c.args.out.now.items c.put_pairs.new.out.items c.put_unpaired.new.out.items (pairs_text c.args.settings.now)
    (unpaired_text c.args.settings.now) c.in_ok-put_pairs.ensures c.in_ok-put_unpaired.ensures
