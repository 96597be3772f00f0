use Rattle.sva_script.proofs.PartLemmas.{first_name, no_name}
use Rattle.sva_script.proofs.parts.name_in.Goals as goal

pub returns-in-empty : goal.returns-in-empty
returns-in-empty c = no_name c.args.words.now c.in-empty.len_below

pub returns-in-len1-up : goal.returns-in-len1-up
returns-in-len1-up c = first_name c.args.words.now _ _ c.in-len1-up.len_at_least c.name_before.ensures
