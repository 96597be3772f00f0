use Rattle.std.proofs.Common.{◌==◌, ◌+◌, ◌∷◌, ◌∙◌, ap, sym, take}
use Rattle.std.specs.List.{slice_split}
use Rattle.sva_script.proofs.ItemLemmas.{split_found, split_last, to_end}
use Rattle.sva_script.proofs.splitting.first_part.Goals as goal

pub returns-in-Some-clause-some : goal.returns-in-Some-clause-some
returns-in-Some-clause-some c =
    split_found (λ byte. byte == c.args.separator) c.args.text.now c.in-Some.end (sym c.separator_in.ensures.at ∙ c.in-Some.is)
    ∙ ap (λ rest. take c.in-Some.end c.args.text.now ∷ slice_split (λ byte. byte == c.args.separator) rest) (sym (to_end (c.in-Some.end + 1) c.args.text.now))

pub returns-in-None-clause-none : goal.returns-in-None-clause-none
returns-in-None-clause-none c = split_last (λ byte. byte == c.args.separator) c.args.text.now (sym c.separator_in.ensures.at ∙ c.in-None.is)
