use Rattle.std.proofs.Common.{rules, tests}
use Rattle.std.proofs.lemmas.Iterator.{YieldsList-from_slice}
use Rattle.std.proofs.lemmas.Iterator.Search.{find_from_yields_List}
use Rattle.sva_pasid.specs.Places.{is_of}
use Rattle.sva_pasid.proofs.tables.Table.place.Goals as goal

pub returns : goal.returns
returns c =
    rw⁻¹ c.self.view_is
    (find_from_yields_List (is_of c.args.binding) _ _ c.find.result c.find.ensures.ran (YieldsList-from_slice c.self.inside.places.items cc)
    (λ x b q k. search (rules, tests)))
