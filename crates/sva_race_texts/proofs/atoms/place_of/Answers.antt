use Rattle.std.proofs.Common.{◌∙◌, sym}
use Rattle.sva_race_texts.proofs.PieceLemmas.{place_by}
use Rattle.sva_race_texts.proofs.atoms.place_of.Goals as goal

pub returns-in-Some : goal.returns-in-Some
returns-in-Some c = sym (place_by c.args.lines.now c.args.name.now _ (sym c.in-Some.is ∙ c.line_of.ensures))

pub returns-in-None : goal.returns-in-None
returns-in-None c = sym (place_by c.args.lines.now c.args.name.now _ (sym c.in-None.is ∙ c.line_of.ensures))
