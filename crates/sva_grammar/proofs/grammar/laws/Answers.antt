use Rattle.sva_grammar.proofs.NameLemmas.{lines_are_named}
use Rattle.sva_grammar.proofs.LawLemmas.{numbers_are_decimal, scripts_are_read}
use Rattle.sva_grammar.proofs.LineLemmas.{lines_are_counted}
use Rattle.sva_grammar.proofs.VectorLemmas.{vectors_are_hexadecimal}
use Rattle.sva_grammar.proofs.grammar.laws.Goals as goal

pub returns-clause-numbers : goal.returns-clause-numbers
returns-clause-numbers c = numbers_are_decimal

pub returns-clause-vectors : goal.returns-clause-vectors
returns-clause-vectors c = vectors_are_hexadecimal

pub returns-clause-lines : goal.returns-clause-lines
returns-clause-lines c = lines_are_counted

pub returns-clause-scripts : goal.returns-clause-scripts
returns-clause-scripts c = scripts_are_read

pub returns-clause-named : goal.returns-clause-named
returns-clause-named c = lines_are_named
