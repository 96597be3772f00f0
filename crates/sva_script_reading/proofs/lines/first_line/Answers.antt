use Rattle.std.proofs.Common.{◌∙◌, ◌+◌, ◌∷◌, ap, arith, length, sym, take}
use Rattle.std.proofs.Math.ListN.{drop_of_length-le}
use Rattle.sva_grammar.specs.Grammar.{lines_of}
use Rattle.sva_script.proofs.ItemLemmas.{to_end}
use Rattle.sva_script_reading.proofs.LineLemmas.{first_at, first_of_all}
use Rattle.sva_script_reading.proofs.lines.first_line.Goals as goal

pub returns-in-Some-clause-lines : goal.returns-in-Some-clause-lines
returns-in-Some-clause-lines c =
    first_at c.args.text.now c.in-Some.end (sym c.end_in.ensures.at ∙ c.in-Some.is)
    ∙ ap (λ rest. take c.in-Some.end c.args.text.now ∷ lines_of rest) (sym (to_end (c.in-Some.end + 1) c.args.text.now))

pub returns-in-None-clause-lines : goal.returns-in-None-clause-lines
returns-in-None-clause-lines c =
    first_of_all c.args.text.now c.requires (sym c.end_in.ensures.at ∙ c.in-None.is)
    ∙ ap (λ rest. c.args.text.now ∷ lines_of rest)
    (sym (to_end (length c.args.text.now) c.args.text.now ∙ drop_of_length-le c.args.text.now (omega arith)))
