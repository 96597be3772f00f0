use Rattle.std.proofs.Common.{◌≡◌, drop, true}
use Rattle.std.specs.List.{list_all}
use Rattle.std.specs.Str.Parse.{digits_value, digits_value_after}
use Rattle.sva_grammar.specs.Grammar.{is_vector_digit}
use Rattle.sva_grammar.proofs.words.vector_in.Given as goal

-- the digits that are left, behind the number so far, write what all of them do
abbrev pub invariant-loop-byte : goal.invariant-loop-byte
invariant-loop-byte l = record {
  value : digits_value_after 16 l.value (drop l.byte-index l.word) ≡ digits_value 16 l.word;
  digits : list_all is_vector_digit (drop l.byte-index l.word) ≡ true;
}
