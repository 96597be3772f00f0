-- Lines with their words, and the bodies in which they stand, as code keeps them.
use Rattle.std.specs.Prelude.{◌≡◌, ℕ, List, [], map, Option, Some, None, Result, Ok, Err}
use denote.Ref.{Bor}
use Rattle.sva_driver_texts.specs.WrittenOut.{BodySaid, Defined, Worded, WrongSaid}
use Rattle.sva_driver_texts.specs.declared.bodies.Body.{Body}
use Rattle.sva_driver_texts.specs.declared.bodies.Definition.{Definition}
use Rattle.sva_driver_texts.specs.declared.bodies.WordedLine.{WordedLine}
use Rattle.sva_driver_texts.specs.declared.bodies.WrongLine.{WrongLine}

-- words that are lent
abbrev pub texts : List (Bor (List ℕ)) → List (List ℕ)
texts words = map {A = Bor (List ℕ)} {B = List ℕ} (λ word. word.now) words

abbrev pub worded_seen : WordedLine → Worded
worded_seen line = (line.number, texts line.words.items)

abbrev pub lines_seen : List WordedLine → List Worded
lines_seen lines = map worded_seen lines

abbrev pub body_seen : Body → BodySaid
body_seen body = record {
  opener = body.opener;
  number = body.number;
  name = body.name.now;
  times = body.times;
  ifs = body.ifs;
  lines = lines_seen body.lines.items;
}

abbrev pub defined_seen : Definition → Defined
defined_seen own = record { name = own.name.now; parameters = texts own.parameters.items; lines = lines_seen own.lines.items }

abbrev pub wrong_seen : WrongLine → WrongSaid
wrong_seen line = record { number = line.number; words = texts line.words.items; wrong = line.wrong }

-- the lines are given and nothing is said; or what is wrong is
abbrev pub WritesOut : Result (List Worded) (List ℕ) → Option (List WordedLine) → (out : List ℕ) → Type 0
WritesOut (Ok lines) (Some found) out = (lines_seen found ≡ lines) × (out ≡ [])
WritesOut (Err said) None out = out ≡ said
WritesOut written found out = ⊥
