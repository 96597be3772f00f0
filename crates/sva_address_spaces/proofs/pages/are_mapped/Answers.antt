use Rattle.sva_address_spaces.proofs.PageLists.{are_mapped-seen}
use Rattle.sva_address_spaces.proofs.pages.are_mapped.Goals as goal

pub returns : goal.returns
returns c = are_mapped-seen c.args.space.now c.args.page c.args.count c.are_mapped.result c.are_mapped.ensures
