-- What was wanted where a line of a definition, a call or a repeat is wrong, in words.
use Rattle.std.specs.Prelude.{ℕ, List, codes}
use Rattle.sva_driver_words.specs.declared.written.WrittenWanted.{WrittenWanted}
use Rattle.sva_driver_words.specs.declared.written.WrittenWanted.TheVariants as written

abbrev pub written_text : WrittenWanted → List ℕ
written_text written.Name = codes "a name: a letter, then letters, digits, - or _"
written_text written.NewName = codes "a name that no definition above has"
written_text written.Parameter = codes "a parameter: $, a letter, then letters, digits, - or _"
written_text written.NewParameter = codes "a parameter that the definition doesn't have yet"
written_text written.FewParameters = codes "no more than 16 parameters"
written_text written.NoBlock = codes "another line: a definition stands in no block"
written_text written.InBody = codes "an act, else, end, repeat or call"
written_text written.OwnParameter = codes "a parameter of this definition"
written_text written.Defined = codes "the name of a definition above"
written_text written.Given = codes "a word for each parameter"
written_text written.Times = codes "a number, 1 to 65536"
written_text written.Few = codes "no more than 65536 lines or 1048576 bytes written out"
written_text written.End = codes "an end below"
