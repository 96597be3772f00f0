use Rattle.std.proofs.Common.{◌∙◌, ◌+◌, ◌∷◌, [], ap, drop, map, sym}
use Rattle.std.specs.Prelude.{codes}
use Rattle.sva_race_texts.specs.Words.{pieces}
use Rattle.sva_race_texts.proofs.Lists.{said}
use Rattle.sva_race_texts.specs.Seen.{line_seen}
use Rattle.sva_race_texts.specs.Literals.{with_literal}
use Rattle.sva_race_texts.specs.Readings.{literals_seen}
use Rattle.sva_race_texts.proofs.LiteralLemmas.{fold_end, fold_next}
use Rattle.sva_race_texts.proofs.literals.add_each.Goals as goal

pub loop-count-preserved : goal.loop-count-preserved
loop-count-preserved c =
    let one = with_literal c.args.config c.args.names.now (map line_seen c.args.lines.now) c.args.line c.args.is_of_ends in
    let words = said c.args.words.now in
    let start = c.loop-count.start in
    let rest = pieces (codes "and") (drop (start + (c.in-Some.count + 1)) words) in
    sym (fold_next one (literals_seen c.loop-count.own) (literals_seen c.add_literal.new.own)
    (said c.words_at-piece.result.now) (pieces (codes "and") (drop start words)) rest
    (c.in-Some.ensures.some ∙ ap (λ l. l ∷ rest) (sym c.words_at-piece.ensures.words)) c.in_ok-add_literal.ensures)
    ∙ c.loop-count.invariant

pub returns : goal.returns
returns c =
    let one = with_literal c.args.config c.args.names.now (map line_seen c.args.lines.now) c.args.line c.args.is_of_ends in
    fold_end one (literals_seen c.loop-count.own) (literals_seen c.add_literal-2.new.own)
    (said c.words_from-piece.result.now) (pieces (codes "and") (drop c.loop-count.start (said c.args.words.now)))
    (c.in_default.ensures.none ∙ ap (λ l. l ∷ []) (sym c.words_from-piece.ensures.words)) c.in_ok-add_literal-2.ensures
    ∙ c.loop-count.invariant
