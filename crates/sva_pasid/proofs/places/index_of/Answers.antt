use Rattle.std.proofs.Common.{◌≡◌, rules, tests}
use Rattle.std.specs.Prelude.{position}
use Rattle.std.proofs.lemmas.Iterator.{YieldsList-from_slice}
use Rattle.std.proofs.lemmas.Iterator.Search.{position_from_yields_List}
use Rattle.sva_pasid.specs.Places.{is_of}
use Rattle.sva_pasid.proofs.PlaceLemmas.{index_some, index_none}
use Rattle.sva_pasid.proofs.places.index_of.Goals as goal

pub returns-clause-some : goal.returns-clause-some
returns-clause-some c =
    let first : c.position.result ≡ position (is_of c.args.binding) c.args.places.now =
    position_from_yields_List (is_of c.args.binding) _ _ c.position.result c.position.ensures.ran (YieldsList-from_slice c.args.places.now cc)
    (λ x b q k. search (rules, tests)) in
    index_some c.args.binding c.args.places.now c.position.result c.requires.apart first

pub returns-clause-none : goal.returns-clause-none
returns-clause-none c =
    let first : c.position.result ≡ position (is_of c.args.binding) c.args.places.now =
    position_from_yields_List (is_of c.args.binding) _ _ c.position.result c.position.ensures.ran (YieldsList-from_slice c.args.places.now cc)
    (λ x b q k. search (rules, tests)) in
    index_none c.args.binding c.args.places.now c.position.result first
