use Rattle.std.proofs.Common.{◌∙◌, sym}
use Rattle.sva_driver_words.proofs.Places.{place_by}
use Rattle.sva_driver_words.proofs.locks.place_in.Goals as goal

pub returns-in-Some : goal.returns-in-Some
returns-in-Some c = sym (place_by c.args.names.now c.args.name.now _ (sym c.in-Some.is ∙ c.position_of.ensures))

pub returns-in-None : goal.returns-in-None
returns-in-None c = sym (place_by c.args.names.now c.args.name.now _ (sym c.in-None.is ∙ c.position_of.ensures))
