use Rattle.std.proofs.Common.{rules, tests}
use Rattle.std.proofs.lemmas.Iterator.{YieldsList-from_slice}
use Rattle.std.proofs.lemmas.Iterator.Search.{any_from_yields_List}
use Rattle.sva_endpoint.specs.RequestTags.{asks_under}
use Rattle.sva_endpoint.proofs.request_tags.RequestTags.asks_under.Goals as goal

pub returns : goal.returns
returns c =
    any_from_yields_List (asks_under c.args.pasid) _ _ c.any.result c.any.ensures.ran (YieldsList-from_slice c.args.self.now (cc))
    (λ x b q k. search (rules, tests))
