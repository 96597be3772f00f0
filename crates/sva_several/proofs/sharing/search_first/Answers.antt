use Rattle.std.proofs.Common.{subst}
use Rattle.sva_several.specs.Searches.{Tries}
use Rattle.sva_several.specs.Sharing.{shared}
use Rattle.sva_several.specs.declared.searching.Search.{Search}
use Rattle.sva_several.proofs.Limits.{first_alone, first_ended}
use Rattle.sva_several.proofs.sharing.search_first.Goals as goal

pub returns-then-tried : goal.returns-then-tried
returns-then-tried c =
    let text = c.args.text.now in
    let tried = c.in_ok-tried.tried in
    first_ended c.args.search c.args.jobs text tried.said tried.is_whole c.if-tried.true
    (subst (λ (search : Search). Tries search text tried.said tried.is_whole) c.shared.ensures c.in_ok-tried.ensures)

pub returns-then-jobs-eq1 : goal.returns-then-jobs-eq1
returns-then-jobs-eq1 c =
    let text = c.args.text.now in
    let tried = c.in_ok-tried.tried in
    first_alone c.args.search c.args.jobs text tried.said tried.is_whole c.if-jobs-eq1.true
    (subst (λ (search : Search). Tries search text tried.said tried.is_whole) c.shared.ensures c.in_ok-tried.ensures)

pub returns-else-jobs-eq1 : goal.returns-else-jobs-eq1
returns-else-jobs-eq1 c =
    let text = c.args.text.now in
    let tried = c.in_ok-tried.tried in (
      tried.said,
      subst (Tries (shared c.args.search c.args.jobs) text tried.said) c.if-tried.false
          (subst (λ (search : Search). Tries search text tried.said tried.is_whole) c.shared.ensures c.in_ok-tried.ensures),
    )
