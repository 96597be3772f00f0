use Rattle.std.proofs.Common.{◌≡◌, ◌<◌, ◌+◌, ◌-◌, ◌∙◌, [], ◌∷◌, ap, sym, arith, suc, drop, length, map, set, take, rules}
use Rattle.std.proofs.lemmas.List.{get_or-drop, length-drop, map-set, take_rest}
use Rattle.std.proofs.Math.Seq.{take-length}
use Rattle.sva_grammar.specs.Grammar.{words_of}
use Rattle.sva_grammar.specs.Places.{in_places, line_in, word_len}
use Rattle.sva_grammar.proofs.PlaceLemmas.{drop_next, in_places-more, in_places-no_more, walk_ends, walk_on}
use Rattle.sva_grammar.proofs.words.find_words.Goals.{then-count-lt-MOST_PLACES, else-count-lt-MOST_PLACES}
use Rattle.sva_grammar.proofs.words.find_words.Goals as goal

pub returns-then-ends_line-clause-count : goal.returns-then-ends_line-clause-count
returns-then-ends_line-clause-count c =
    let text = c.args.text.now in
    let start = c.loop-count.start in
    let count = c.loop-count.count in
    let n = c.word_len.result in
    let is : word_len (drop start text) ≡ n = ap word_len (sym (take_rest text start)) ∙ sym (c.word_len.ensures.len) in
    let ends = walk_ends text start count n c.loop-count.invariant.len c.loop-count.invariant.counted is
    (λ inside. get_or-drop start text n 0 ∙ c.ends_line.ensures.yes c.if-ends_line.true (omega (arith, inside, length-drop start text))) in
    omega (arith, ends.1)

pub returns-then-ends_line-clause-len : goal.returns-then-ends_line-clause-len
returns-then-ends_line-clause-len c =
    let text = c.args.text.now in
    let start = c.loop-count.start in
    let count = c.loop-count.count in
    let n = c.word_len.result in
    let is : word_len (drop start text) ≡ n = ap word_len (sym (take_rest text start)) ∙ sym (c.word_len.ensures.len) in
    let ends = walk_ends text start count n c.loop-count.invariant.len c.loop-count.invariant.counted is
    (λ inside. get_or-drop start text n 0 ∙ c.ends_line.ensures.yes c.if-ends_line.true (omega (arith, inside, length-drop start text))) in
    sym ends.0

pub returns-then-ends_line-clause-placed : goal.returns-then-ends_line-clause-placed
returns-then-ends_line-clause-placed c =
    let text = c.args.text.now in
    let start = c.loop-count.start in
    let count = c.loop-count.count in
    let n = c.word_len.result in
    let words = words_of (line_in text) in
    let rest = drop start text in
    let is : word_len (drop start text) ≡ n = ap word_len (sym (take_rest text start)) ∙ sym (c.word_len.ensures.len) in
    let ends = walk_ends text start count n c.loop-count.invariant.len c.loop-count.invariant.counted is
    (λ inside. get_or-drop start text n 0 ∙ c.ends_line.ensures.yes c.if-ends_line.true (omega (arith, inside, length-drop start text))) in
    let first : take (start + n - start) rest ≡ take n rest = ap (λ m. take m rest) (omega arith) in
    let left : drop count words ≡ take (start + n - start) rest ∷ [] = c.loop-count.invariant.left ∙ ends.2 ∙ ap (λ w. w ∷ []) (sym first) in
    let kept : map (λ word. word.now) c.if-count-lt-MOST_PLACES.places ≡ in_places 7 (take (suc count) words) =
    elim c.if-count-lt-MOST_PLACES.branch [
      | then-count-lt-MOST_PLACES w ↦
          ap (map (λ word. word.now)) w.places-is ∙ map-set (λ word. word.now) c.loop-count.places count _
          ∙ ap (λ places. set places count (take (start + n - start) rest)) c.loop-count.invariant.placed ∙ in_places-more 7 count words _ _ left
      | else-count-lt-MOST_PLACES w ↦
          ap (map (λ word. word.now)) w.places-is ∙ c.loop-count.invariant.placed ∙ in_places-no_more 7 count words (search rules)
    ] in
    kept ∙ ap (λ m. in_places 7 (take m words)) ends.1 ∙ ap (in_places 7) (take-length words)

pub loop-count-preserved : goal.loop-count-preserved
loop-count-preserved c =
    let text = c.args.text.now in
    let start = c.loop-count.start in
    let count = c.loop-count.count in
    let n = c.word_len.result in
    let words = words_of (line_in text) in
    let rest = drop start text in
    let is : word_len (drop start text) ≡ n = ap word_len (sym (take_rest text start)) ∙ sym (c.word_len.ensures.len) in
    let more = c.ends_line.ensures.no c.if-ends_line.false in
    let inside : n < length rest = omega (arith, more.0, length-drop start text) in
    let next = walk_on text start count n c.loop-count.invariant.len c.loop-count.invariant.counted is inside
    (λ lf. more.1 (sym (get_or-drop start text n 0) ∙ lf)) in
    let first : take (start + n - start) rest ≡ take n rest = ap (λ m. take m rest) (omega arith) in
    let left : drop count words ≡ take (start + n - start) rest ∷ words_of (line_in (drop (start + n + 1) text)) =
    c.loop-count.invariant.left ∙ next.2 ∙ ap (λ w. w ∷ words_of (line_in (drop (start + n + 1) text)))
    (sym first) in
    let kept : map (λ word. word.now) c.if-count-lt-MOST_PLACES.places ≡ in_places 7 (take (suc count) words) =
    elim c.if-count-lt-MOST_PLACES.branch [
      | then-count-lt-MOST_PLACES w ↦
          ap (map (λ word. word.now)) w.places-is ∙ map-set (λ word. word.now) c.loop-count.places count _
          ∙ ap (λ places. set places count (take (start + n - start) rest)) c.loop-count.invariant.placed ∙ in_places-more 7 count words _ _ left
      | else-count-lt-MOST_PLACES w ↦
          ap (map (λ word. word.now)) w.places-is ∙ c.loop-count.invariant.placed ∙ in_places-no_more 7 count words (search rules)
    ] in
    let one : count + 1 ≡ suc count = omega arith in
    record {
      inside = omega (arith, more.0);
      few = omega (arith, c.loop-count.invariant.few);
      len = next.0;
      counted = next.1;
      left = ap (λ m. drop m words) one ∙ drop_next count words _ _ left;
      placed = kept ∙ ap (λ m. in_places 7 (take m words)) (sym one);
    }
