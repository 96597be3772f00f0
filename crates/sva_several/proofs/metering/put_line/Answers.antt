use Rattle.sva_several.proofs.Tellings.{four_pieces}
use Rattle.sva_several.proofs.metering.put_line.Goals as goal

pub returns : goal.returns
returns c =
    four_pieces c.put_seconds.result c.args.out.now.items c.extend_from_slice.new.self.items c.put_share.new.out.items c.extend_from_slice-2.new.self.items
    c.put_seconds.new.out.items _ _ _ _ c.in_ok-extend_from_slice.ensures.items c.in_ok-put_share.ensures c.in_ok-extend_from_slice-2.ensures.items
    c.put_seconds.ensures
