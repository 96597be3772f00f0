use Rattle.std.proofs.Common.{◌==◌, ◌&&◌, rules, tests}
use Rattle.std.proofs.lemmas.Iterator.{YieldsList-from_slice}
use Rattle.std.proofs.lemmas.Iterator.Search.{any_from_yields_List}
use Rattle.sva_prq.specs.declared.jobs.Ask.{Ask}
use Rattle.sva_address_spaces.proofs.asked.is_write_asked.Goals as goal

pub returns : goal.returns
returns c =
    any_from_yields_List (λ (ask : Ask). ask.page == c.args.page && ask.write) _ _ c.any.result c.any.ensures.ran
    (YieldsList-from_slice c.args.asks.now cc) (λ x b q k. search (rules, tests))
