use Rattle.std.proofs.Common.{◌≡◌, ◌∙◌, ◌+◌, ◌∷◌, [], List, ap, arith, drop, length, subst, sym}
use Rattle.std.specs.Prelude.{Result, codes}
use Rattle.sva_open.specs.declared.descriptors.Descriptor.{Descriptor}
use Rattle.sva_driver_words.specs.declared.faults.DriverWrong.{DriverWrong}
use Rattle.sva_race_texts.specs.Words.{pieces}
use Rattle.sva_race_texts.proofs.Lists.{said, said_length}
use Rattle.sva_driver_words.specs.Descriptors.{descriptor_at, itself}
use Rattle.sva_driver_words.specs.Taking.{Fails}
use Rattle.sva_driver_words.proofs.PieceLemmas.{each_begin, each_end, each_fails, each_next}
use Rattle.sva_driver_words.proofs.descriptors.read_descriptors.Goals as goal

pub loop-count-init : goal.loop-count-init
loop-count-init c = record {
  read = each_begin (descriptor_at c.args.units.now c.args.endpoint c.args.name) itself c.args.at
      (pieces (codes "+") (said c.args.words.now)) c.new-list.result.items c.new-list.ensures.items;
  within = omega arith;
}

pub returns-in-Err : goal.returns-in-Err
returns-in-Err c =
    let one = descriptor_at c.args.units.now c.args.endpoint c.args.name in
    let words = said c.args.words.now in
    let start = c.loop-count.start in
    subst (λ (read : Result (List Descriptor) DriverWrong). Fails read c.in-Err.stop) c.loop-count.invariant.read
    (each_fails one itself (c.args.at + start) (said c.words_at-piece.result.now) (pieces (codes "+") (drop start words))
    (pieces (codes "+") (drop (start + (c.in-Some.count + 1)) words)) c.loop-count.list.items c.in-Err.stop
    (c.in-Some.ensures.some
    ∙ ap (λ l. l ∷ pieces (codes "+") (drop (start + (c.in-Some.count + 1)) words)) (sym c.words_at-piece.ensures.words))
    c.in-Err.ensures)

pub loop-count-preserved : goal.loop-count-preserved
loop-count-preserved c =
    let one = descriptor_at c.args.units.now c.args.endpoint c.args.name in
    let words = said c.args.words.now in
    let start = c.loop-count.start in
    let next : c.args.at + (start + (c.in-Some.count + 1)) ≡ c.args.at + start + length (said c.words_at-piece.result.now) + 1 =
    omega (arith, said_length c.words_at-piece.result.now, c.words_at-piece.ensures.count) in
    record {
      read = sym (each_next one itself (c.args.at + start) (c.args.at + (start + (c.in-Some.count + 1))) (said c.words_at-piece.result.now)
          (pieces (codes "+") (drop start words)) (pieces (codes "+") (drop (start + (c.in-Some.count + 1)) words))
          c.loop-count.list.items c.add_descriptor.new.list.items
          (c.in-Some.ensures.some
          ∙ ap (λ l. l ∷ pieces (codes "+") (drop (start + (c.in-Some.count + 1)) words)) (sym c.words_at-piece.ensures.words))
          next c.in-Ok.ensures)
          ∙ c.loop-count.invariant.read;
      within = omega (arith, c.in-Some.ensures.within);
    }

pub returns-in-Ok-add_descriptor : goal.returns-in-Ok-add_descriptor
returns-in-Ok-add_descriptor c =
    let one = descriptor_at c.args.units.now c.args.endpoint c.args.name in
    let start = c.loop-count.start in
    sym c.loop-count.invariant.read
    ∙ each_end one itself (c.args.at + start) (said c.words_from-piece.result.now) (pieces (codes "+") (drop start (said c.args.words.now)))
    c.loop-count.list.items c.add_descriptor-2.new.list.items
    (c.in_default.ensures.none ∙ ap (λ l. l ∷ []) (sym c.words_from-piece.ensures.words)) c.in-Ok-add_descriptor.ensures

pub returns-in-Err-add_descriptor : goal.returns-in-Err-add_descriptor
returns-in-Err-add_descriptor c =
    let one = descriptor_at c.args.units.now c.args.endpoint c.args.name in
    let start = c.loop-count.start in
    subst (λ (read : Result (List Descriptor) DriverWrong). Fails read c.in-Err-add_descriptor.stop) c.loop-count.invariant.read
    (each_fails one itself (c.args.at + start) (said c.words_from-piece.result.now)
    (pieces (codes "+") (drop start (said c.args.words.now))) [] c.loop-count.list.items c.in-Err-add_descriptor.stop
    (c.in_default.ensures.none ∙ ap (λ l. l ∷ []) (sym c.words_from-piece.ensures.words)) c.in-Err-add_descriptor.ensures)
