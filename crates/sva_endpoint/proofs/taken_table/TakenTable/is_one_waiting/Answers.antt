use Rattle.std.proofs.Common.{◌&&◌, ℕ, Option, rules, tests}
use Rattle.std.proofs.lemmas.Iterator.{YieldsList-from_slice}
use Rattle.std.proofs.lemmas.Iterator.Consumers.{YieldsList-from_enumerate}
use Rattle.std.proofs.lemmas.Iterator.Search.{any_from_yields_List}
use Rattle.sva_itags.specs.Vector.{is_named}
use Rattle.sva_endpoint.specs.declared.taken_table.Taken.{Taken}
use Rattle.sva_endpoint.specs.Taken.{waits}
use Rattle.sva_endpoint.proofs.taken_table.TakenTable.is_one_waiting.Goals as goal

pub returns : goal.returns
returns c =
    any_from_yields_List (λ (place : ℕ × Option Taken). is_named c.args.vector place.0 && waits place.1) _ _ c.any.result c.any.ensures.ran
    (YieldsList-from_enumerate (YieldsList-from_slice c.args.self.now (cc)) (cc)) (λ x b q k. search (rules, tests))
