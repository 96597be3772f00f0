use Rattle.std.proofs.Common.{None, refl, sym, subst}
use Rattle.std.proofs.lemmas.List.Elements.{All-replicate}
use Rattle.sva_itags.specs.Tags.{IsPlace, AreTags}
use Rattle.sva_itags.proofs.itags.Itags.new.Goals as goal

pub invariant_of-result : goal.invariant_of-result
invariant_of-result c = subst AreTags (sym c.from.ensures.0) (refl, All-replicate IsPlace 32 None tt)
