use Rattle.std.proofs.Common.{◌||◌, not, is_some, ℕ, Option, rules, tests}
use Rattle.std.proofs.lemmas.Iterator.{YieldsList-from_slice}
use Rattle.std.proofs.lemmas.Iterator.Consumers.{YieldsList-from_enumerate}
use Rattle.std.proofs.lemmas.Iterator.Search.{all_from_yields_List}
use Rattle.sva_itags.specs.Vector.{is_named}
use Rattle.sva_endpoint.specs.declared.taken_table.Taken.{Taken}
use Rattle.sva_endpoint.proofs.taken_table.TakenTable.are_pending.Goals as goal

pub returns : goal.returns
returns c =
    all_from_yields_List (λ (place : ℕ × Option Taken). not (is_named c.args.vector place.0) || is_some place.1) _ _ c.all.result c.all.ensures.ran
    (YieldsList-from_enumerate (YieldsList-from_slice c.args.self.now (cc)) (cc)) (λ x b q k. search (rules, tests))
