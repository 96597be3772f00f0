use Rattle.std.proofs.Common.{◌≡◌, ◌∙◌, ◌+◌, ◌∷◌, [], List, ap, arith, drop, length, map, subst, sym}
use Rattle.std.specs.Prelude.{Result, codes}
use Rattle.sva_race_texts.specs.declared.faults.RaceWrong.{RaceWrong}
use Rattle.sva_race_texts.specs.Words.{pieces}
use Rattle.sva_race_texts.proofs.Lists.{said, said_length}
use Rattle.sva_race_texts.specs.Conditions.{literal_of}
use Rattle.sva_race_texts.specs.Seen.{LiteralSaid, line_seen, literal_seen}
use Rattle.sva_race_texts.specs.TakingWords.{Fails}
use Rattle.sva_race_texts.proofs.PieceLemmas.{each_begin, each_end, each_fails, each_next}
use Rattle.sva_race_texts.proofs.claims.read_literals.Goals as goal

pub loop-count-init : goal.loop-count-init
loop-count-init c = record {
  read = each_begin (literal_of c.args.config c.args.names.now (map line_seen c.args.lines.now)) literal_seen c.args.at
      (pieces (codes "and") (said c.args.words.now)) c.new-literals.result.items c.new-literals.ensures.items;
  within = omega arith;
}

pub returns-in-Err : goal.returns-in-Err
returns-in-Err c =
    let one = literal_of c.args.config c.args.names.now (map line_seen c.args.lines.now) in
    let words = said c.args.words.now in
    let start = c.loop-count.start in
    subst (λ (read : Result (List LiteralSaid) RaceWrong). Fails read c.in-Err.stop) c.loop-count.invariant.read
    (each_fails one literal_seen (c.args.at + start) (said c.words_at-piece.result.now) (pieces (codes "and") (drop start words))
    (pieces (codes "and") (drop (start + (c.in-Some.count + 1)) words)) c.loop-count.literals.items c.in-Err.stop
    (c.in-Some.ensures.some
    ∙ ap (λ l. l ∷ pieces (codes "and") (drop (start + (c.in-Some.count + 1)) words)) (sym c.words_at-piece.ensures.words))
    c.in-Err.ensures)

pub loop-count-preserved : goal.loop-count-preserved
loop-count-preserved c =
    let one = literal_of c.args.config c.args.names.now (map line_seen c.args.lines.now) in
    let words = said c.args.words.now in
    let start = c.loop-count.start in
    let next : c.args.at + (start + (c.in-Some.count + 1)) ≡ c.args.at + start + length (said c.words_at-piece.result.now) + 1 =
    omega (arith, said_length c.words_at-piece.result.now, c.words_at-piece.ensures.count) in
    record {
      read = sym (each_next one literal_seen (c.args.at + start) (c.args.at + (start + (c.in-Some.count + 1))) (said c.words_at-piece.result.now)
          (pieces (codes "and") (drop start words)) (pieces (codes "and") (drop (start + (c.in-Some.count + 1)) words))
          c.loop-count.literals.items c.add_literal.new.literals.items
          (c.in-Some.ensures.some
          ∙ ap (λ l. l ∷ pieces (codes "and") (drop (start + (c.in-Some.count + 1)) words)) (sym c.words_at-piece.ensures.words))
          next c.in-Ok.ensures)
          ∙ c.loop-count.invariant.read;
      within = omega (arith, c.in-Some.ensures.within);
    }

pub returns-in-Ok-add_literal : goal.returns-in-Ok-add_literal
returns-in-Ok-add_literal c =
    let one = literal_of c.args.config c.args.names.now (map line_seen c.args.lines.now) in
    let start = c.loop-count.start in
    sym c.loop-count.invariant.read
    ∙ each_end one literal_seen (c.args.at + start) (said c.words_from-piece.result.now) (pieces (codes "and") (drop start (said c.args.words.now)))
    c.loop-count.literals.items c.add_literal-2.new.literals.items
    (c.in_default.ensures.none ∙ ap (λ l. l ∷ []) (sym c.words_from-piece.ensures.words)) c.in-Ok-add_literal.ensures

pub returns-in-Err-add_literal : goal.returns-in-Err-add_literal
returns-in-Err-add_literal c =
    let one = literal_of c.args.config c.args.names.now (map line_seen c.args.lines.now) in
    let start = c.loop-count.start in
    subst (λ (read : Result (List LiteralSaid) RaceWrong). Fails read c.in-Err-add_literal.stop) c.loop-count.invariant.read
    (each_fails one literal_seen (c.args.at + start) (said c.words_from-piece.result.now)
    (pieces (codes "and") (drop start (said c.args.words.now))) [] c.loop-count.literals.items c.in-Err-add_literal.stop
    (c.in_default.ensures.none ∙ ap (λ l. l ∷ []) (sym c.words_from-piece.ensures.words)) c.in-Err-add_literal.ensures)
