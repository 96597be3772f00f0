use Rattle.sva_laws.proofs.OnePart.{always_one_part, always_dropped}
use Rattle.sva_laws.proofs.Turns.{always_answers, always_latest}
use Rattle.sva_laws.proofs.Books.{always_books}
use Rattle.sva_laws.proofs.what_steps_change.Goals as goal

pub returns-clause-one_part : goal.returns-clause-one_part
returns-clause-one_part c = λ rule config steps s fits stays. always_one_part rule config steps s stays

pub returns-clause-apart : goal.returns-clause-apart
returns-clause-apart c = λ rule config steps n e fits. always_dropped rule config steps n e

pub returns-clause-answers : goal.returns-clause-answers
returns-clause-answers c = λ rule config steps s m e owed fits gone. always_answers rule config steps s m e owed gone

pub returns-clause-books : goal.returns-clause-books
returns-clause-books c = λ rule config steps s fits. always_books rule config steps s

pub returns-clause-latest : goal.returns-clause-latest
returns-clause-latest c = λ rule config steps s frame fits withheld. always_latest rule config steps s frame withheld
