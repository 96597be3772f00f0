-- The lines of `why`: how deep each stands, and the step in brackets at its end.
use Rattle.std.specs.Prelude.{ℕ, Bool, if◌then◌else◌, List, [], ◌++◌, codes, decimal}
use Rattle.sva_explain.specs.declared.blockers.levels.Level.{Level}
use Rattle.sva_explain.specs.declared.blockers.levels.Level.TheVariants.{First, Second, Third, Fourth, Fifth, Sixth}

-- four spaces for each level
abbrev pub indent : Level → List ℕ
indent First = codes "    "
indent Second = codes "        "
indent Third = codes "            "
indent Fourth = codes "                "
indent Fifth = codes "                    "
indent Sixth = codes "                        "

-- the next level; there are six
abbrev pub below : Level → Level
below First = Second
below Second = Third
below Third = Fourth
below Fourth = Fifth
below Fifth = Sixth
below Sixth = Sixth

-- how a line begins: `    wait 0`
abbrev pub start : Level → (word : List ℕ) → (number : ℕ) → List ℕ
start level word number = indent level ++ word ++ decimal number

-- ` [pump 0]`, where that holds
abbrev pub bracket : Bool → (word : List ℕ) → (number : ℕ) → List ℕ
bracket holds word number = if holds then word ++ decimal number ++ codes "]" else []

-- ` [end 0 3]`, where that holds
abbrev pub bracket_of_two : Bool → (word : List ℕ) → (first second : ℕ) → List ℕ
bracket_of_two holds word first second = if holds then word ++ decimal first ++ codes " " ++ decimal second ++ codes "]" else []
