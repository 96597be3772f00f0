use Rattle.std.proofs.Common.{◌≡◌, ◌≤◌, ◌+◌, ◌-◌, drop, length, map, take}
use Rattle.sva_grammar.specs.Grammar.{words_of}
use Rattle.sva_grammar.specs.Places.{in_places, line_in, line_len}
use Rattle.sva_grammar.proofs.words.find_words.Given as goal

-- the line goes on at `start`, with the words that have no place yet
abbrev pub invariant-loop-count : goal.invariant-loop-count
invariant-loop-count l = record {
  inside : l.start ≤ length l.text;
  few : l.count ≤ l.start;
  len : line_len l.text ≡ l.start + line_len (drop l.start l.text);
  counted : l.count + length (words_of (line_in (drop l.start l.text))) ≡ length (words_of (line_in l.text));
  left : drop l.count (words_of (line_in l.text)) ≡ words_of (line_in (drop l.start l.text));
  placed : map (λ word. word.now) l.places ≡ in_places 7 (take l.count (words_of (line_in l.text)));
}

abbrev pub decreases-loop-count : goal.decreases-loop-count
decreases-loop-count l = length l.text - l.start
