use Rattle.std.proofs.Common.{inr, subst}
use Rattle.sva_several.specs.Sharing.{IsFirst}
use Rattle.sva_several.proofs.Limits.{tried_said}
use Rattle.sva_several.proofs.sharing.search_again.Goals as goal

pub returns-in_ok-tried-in-Cut : goal.returns-in_ok-tried-in-Cut
returns-in_ok-tried-in-Cut c =
    let text = c.args.text.now in
    let tried = c.in_ok-tried-in-Cut.tried in
    let cut = subst (IsFirst c.args.search c.args.jobs text) c.in-Cut.is c.requires.first in
    inr (cut, tried_said c.args.search text tried.said tried.is_whole c.in_ok-tried-in-Cut.ensures)
