use Rattle.std.proofs.Common.{◌∙◌, sym}
use Rattle.sva_race_texts.proofs.Lists.{piece_found, piece_last}
use Rattle.sva_race_texts.proofs.words.piece_len.Goals as goal

pub returns-in-Some-clause-some : goal.returns-in-Some-clause-some
returns-in-Some-clause-some c =
    piece_found c.args.words.now c.words_from.result.now c.args.separator.now c.args.start c.in-Some.count c.words_from.ensures.words
    (sym c.place_in.ensures.at ∙ c.in-Some.is)

pub returns-in-None-clause-none : goal.returns-in-None-clause-none
returns-in-None-clause-none c =
    piece_last c.args.words.now c.words_from.result.now c.args.separator.now c.args.start c.words_from.ensures.words
    (sym c.place_in.ensures.at ∙ c.in-None.is)
