use Rattle.sva_address_spaces.proofs.FrameLists.{opened-seen}
use Rattle.sva_address_spaces.proofs.address_spaces.AddressSpaces.open.Goals as goal

pub returns : goal.returns
returns c = opened-seen c.args.frames c.args.first c.new.result.items c.in_ok-open.field-0 c.new.ensures.items c.in_ok-open.ensures
