-- On which lines of a driver its verdict rests: what is said of the texts without them.
use Rattle.std.specs.Prelude.{◌≡◌, ℕ, Bool, true, false, List, [], ◌∷◌, ◌++◌, codes, decimal, flat_map}
use Rattle.std.specs.Prelude.{if◌then◌else◌, Option, Some, None}
use Rattle.std.specs.List.{AllZip, list_any}
use Rattle.sva_script_reading.specs.Begins.{Line, lines_from}
use Rattle.sva_driver_reports.specs.Judged.{IsTextJudged}
use Rattle.sva_driver_reports.specs.declared.reports.Ruling.{Ruling}
use Rattle.sva_driver_reports.specs.declared.reports.Ruling.TheVariants as ruling
use Rattle.sva_driver_reports.specs.declared.wanted.Wanted.{Wanted}
use Rattle.sva_variants.specs.Cuts.{CutSaid, cut_seen, cuts_of, without}
use Rattle.sva_variants.specs.declared.cuts.Cut.{Cut}
use Rattle.sva_variants.specs.declared.trying.Tried.{Tried}

-- a nearest finding of each text is told
abbrev pub wanted_of : (most : ℕ) → Wanted
wanted_of most = record { most = most; all = false; lines_alone = false }

-- the first line of a report
abbrev pub head_of : List Line → List ℕ
head_of [] = []
head_of (line ∷ lines) = line.1

abbrev pub first_line : (report : List ℕ) → List ℕ
first_line report = head_of (lines_from 1 report)

-- ---- What is said of each line

-- the verdict of the whole rests on a line where the text without it isn't safe; where lines are wrong without it, or no
-- other order was looked at, that isn't known
abbrev pub word_of : Option Ruling → List ℕ
word_of None = codes "not tried   "
word_of (Some ruling.Safe) = codes "not needed  "
word_of (Some ruling.Untried) = codes "not needed  "
word_of (Some ruling.Right) = codes "not tried   "
word_of (Some ruling.Unsafe) = codes "needed      "
word_of (Some ruling.UnsafeSoFar) = codes "needed      "
word_of (Some ruling.Stuck) = codes "needed      "
word_of (Some ruling.CutOff) = codes "unknown     "

-- `line N: WORDS`, and behind them the lines that were left out with it
unfoldable pub other_text : (number : ℕ) → List ℕ
other_text number = codes ", with line " ++ decimal number

abbrev pub cut_text : CutSaid → List ℕ
cut_text cut = codes "line " ++ decimal cut.number ++ codes ":" ++ cut.act ++ flat_map other_text cut.others

abbrev pub tried_text : CutSaid → (said : Option Ruling) → (line : List ℕ) → List ℕ
tried_text cut said line = word_of said ++ cut_text cut ++ codes ": " ++ line ++ 10 ∷ []

-- the text without the line was judged, and this is told of it, with the first line of its report
abbrev pub IsTried : (text : List ℕ) → (most : ℕ) → CutSaid → Tried → Type 0
IsTried text most cut tried =
    (report : List ℕ) × IsTextJudged (without cut text) (wanted_of most) tried.said report
    × (tried.text.items ≡ tried_text cut tried.said (first_line report))

abbrev pub IsTriedBy : (text : List ℕ) → (most : ℕ) → Cut → Tried → Type 0
IsTriedBy text most cut tried = IsTried text most (cut_seen cut) tried

-- ---- The report

abbrev pub world_text : List ℕ
world_text = codes "needed or not in the world of this file: its settings, and what its endpoints may do\n"

abbrev pub told_of : Tried → List ℕ
told_of tried = tried.text.items

abbrev pub report_text : (own : List ℕ) → List Tried → List ℕ
report_text own all = first_line own ++ codes "\n" ++ flat_map told_of all ++ world_text

-- was the search without a line cut off?
abbrev pub is_cut_off : Option Ruling → Bool
is_cut_off (Some ruling.CutOff) = true
is_cut_off said = false

abbrev pub is_any_cut_off : List Tried → Bool
is_any_cut_off all = list_any (λ tried. is_cut_off tried.said) all

abbrev pub ruling_of : List Tried → Ruling
ruling_of all = if is_any_cut_off all then ruling.CutOff else ruling.Safe

pub record AreTried (text : List ℕ) (most : ℕ) (own : List ℕ) (said : Option Ruling) (out : List ℕ) : Type 0 where
  pub all : List Tried
  pub tried : AllZip (IsTried text most) (cuts_of text) all
  pub ruling : said ≡ Some (ruling_of all)
  pub report : out ≡ report_text own all

-- it is asked of a driver that is safe, and in which something was tried
abbrev pub is_safe : Option Ruling → Bool
is_safe (Some ruling.Safe) = true
is_safe said = false
