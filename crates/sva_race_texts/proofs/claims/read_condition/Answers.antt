use Rattle.std.proofs.Common.{◌≡◌, ◌∙◌, ◌+◌, ◌∷◌, [], ap, arith, drop, length, map, subst, sym}
use Rattle.std.specs.Prelude.{Result, codes}
use Rattle.sva_race_texts.specs.declared.faults.RaceWrong.{RaceWrong}
use Rattle.sva_race_texts.specs.Words.{pieces}
use Rattle.sva_race_texts.proofs.Lists.{said, said_length}
use Rattle.sva_race_texts.specs.Conditions.{literals_of}
use Rattle.sva_race_texts.specs.Seen.{Condition, line_seen, literals_seen}
use Rattle.sva_race_texts.specs.TakingWords.{Fails}
use Rattle.sva_race_texts.proofs.PieceLemmas.{each_begin, each_end, each_fails, each_next}
use Rattle.sva_race_texts.proofs.claims.read_condition.Goals as goal

pub loop-count-init : goal.loop-count-init
loop-count-init c = record {
  read = each_begin (literals_of c.args.config c.args.names.now (map line_seen c.args.lines.now)) literals_seen c.args.at
      (pieces (codes "or") (said c.args.words.now)) c.new-condition.result.items c.new-condition.ensures.items;
  within = omega arith;
}

pub returns-in-Err : goal.returns-in-Err
returns-in-Err c =
    let one = literals_of c.args.config c.args.names.now (map line_seen c.args.lines.now) in
    let words = said c.args.words.now in
    let start = c.loop-count.start in
    subst (λ (read : Result (Condition) RaceWrong). Fails read c.in-Err.stop) c.loop-count.invariant.read
    (each_fails one literals_seen (c.args.at + start) (said c.words_at-piece.result.now) (pieces (codes "or") (drop start words))
    (pieces (codes "or") (drop (start + (c.in-Some.count + 1)) words)) c.loop-count.condition.items c.in-Err.stop
    (c.in-Some.ensures.some
    ∙ ap (λ l. l ∷ pieces (codes "or") (drop (start + (c.in-Some.count + 1)) words)) (sym c.words_at-piece.ensures.words))
    c.in-Err.ensures)

pub loop-count-preserved : goal.loop-count-preserved
loop-count-preserved c =
    let one = literals_of c.args.config c.args.names.now (map line_seen c.args.lines.now) in
    let words = said c.args.words.now in
    let start = c.loop-count.start in
    let next : c.args.at + (start + (c.in-Some.count + 1)) ≡ c.args.at + start + length (said c.words_at-piece.result.now) + 1 =
    omega (arith, said_length c.words_at-piece.result.now, c.words_at-piece.ensures.count) in
    record {
      read = sym (each_next one literals_seen (c.args.at + start) (c.args.at + (start + (c.in-Some.count + 1))) (said c.words_at-piece.result.now)
          (pieces (codes "or") (drop start words)) (pieces (codes "or") (drop (start + (c.in-Some.count + 1)) words))
          c.loop-count.condition.items c.add_literals.new.condition.items
          (c.in-Some.ensures.some
          ∙ ap (λ l. l ∷ pieces (codes "or") (drop (start + (c.in-Some.count + 1)) words)) (sym c.words_at-piece.ensures.words))
          next c.in-Ok.ensures)
          ∙ c.loop-count.invariant.read;
      within = omega (arith, c.in-Some.ensures.within);
    }

pub returns-in-Ok-add_literals : goal.returns-in-Ok-add_literals
returns-in-Ok-add_literals c =
    let one = literals_of c.args.config c.args.names.now (map line_seen c.args.lines.now) in
    let start = c.loop-count.start in
    sym c.loop-count.invariant.read
    ∙ each_end one literals_seen (c.args.at + start) (said c.words_from-piece.result.now) (pieces (codes "or") (drop start (said c.args.words.now)))
    c.loop-count.condition.items c.add_literals-2.new.condition.items
    (c.in_default.ensures.none ∙ ap (λ l. l ∷ []) (sym c.words_from-piece.ensures.words)) c.in-Ok-add_literals.ensures

pub returns-in-Err-add_literals : goal.returns-in-Err-add_literals
returns-in-Err-add_literals c =
    let one = literals_of c.args.config c.args.names.now (map line_seen c.args.lines.now) in
    let start = c.loop-count.start in
    subst (λ (read : Result (Condition) RaceWrong). Fails read c.in-Err-add_literals.stop) c.loop-count.invariant.read
    (each_fails one literals_seen (c.args.at + start) (said c.words_from-piece.result.now)
    (pieces (codes "or") (drop start (said c.args.words.now))) [] c.loop-count.condition.items c.in-Err-add_literals.stop
    (c.in_default.ensures.none ∙ ap (λ l. l ∷ []) (sym c.words_from-piece.ensures.words)) c.in-Err-add_literals.ensures)
