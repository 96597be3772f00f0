-- What comes of a text that is judged, and of one whose lines are taken one after another.
use Rattle.std.specs.Prelude.{◌≡◌, ℕ, Bool, true, false, List, [], ◌∷◌, ◌++◌, codes, count_by, decimal, length}
use Rattle.std.specs.Prelude.{Option, Some, None, Result, Ok, Err}
use Rattle.std.specs.Io.KnownBytes.{Appends}
use Rattle.sva_streams.specs.declared.streams.DriveFault.{DriveFault}
use Rattle.sva_streams.specs.declared.streams.DriveFault.TheVariants.{Write}
use Rattle.sva_streams.specs.Streams.{AppendsPrefix}
use Rattle.sva_open_safe.specs.declared.wrongs.Wrong.{Wrong}
use Rattle.sva_judge.specs.declared.verdicts.Verdict.{Verdict}
use Rattle.sva_judge.specs.Spots.{Spot}
use Rattle.sva_judge.specs.Verdicts.{IsAsked, IsJudged}
use Rattle.sva_driver_texts.specs.Texts.{ReadsDriver, ReadsText, behind_first, driver_of, refused_at}
use Rattle.sva_driver_texts.specs.declared.kept.Begun.{Begun}
use Rattle.sva_driver_texts.specs.declared.kept.Begun.TheVariants as begun
use Rattle.sva_driver_texts.specs.declared.kept.Halt.{Halt}
use Rattle.sva_driver_texts.specs.declared.kept.Halt.TheVariants as halt
use Rattle.sva_driver_texts.specs.declared.kept.Read.{Read}
use Rattle.sva_driver_texts.specs.declared.kept.Text.{Text}
use Rattle.sva_driver_reports.specs.Findings.{wrong_text}
use Rattle.sva_driver_reports.specs.Reports.{events_count, report_text, ruling_of}
use Rattle.sva_driver_reports.specs.declared.reports.Ruling.{Ruling}
use Rattle.sva_driver_reports.specs.declared.reports.Ruling.TheVariants as ruling
use Rattle.sva_driver_reports.specs.declared.wanted.Wanted.{Wanted}

-- ---- Judged

-- a verdict that holds of the driver, by all findings where these are wanted, with its report: of several witnesses that are as short as any, one is told
pub record IsToldBy (text : Text) (wanted : Wanted) (said : Ruling) (out : List ℕ) : Type 0 where
  pub verdict : Verdict
  pub holds : IsJudged text.driver wanted.most verdict
  pub asked : IsAsked wanted.all verdict
  pub ruling : said ≡ ruling_of verdict
  pub report : out ≡ report_text text wanted.lines_alone verdict

-- something is wrong behind a line
abbrev pub unsafe_at : (number : ℕ) → Wrong → List ℕ
unsafe_at number found = codes "unsafe at line " ++ decimal number ++ codes ": " ++ wrong_text found ++ 10 ∷ []

-- what is wrong with the text is told alone; and so is the first line before `race` behind which something is wrong:
-- the driver is unsafe then
abbrev pub IsTold : Begun → (wanted : Wanted) → (wrongs : List ℕ) → Option Ruling → (out : List ℕ) → Type 0
IsTold begun.Faulted wanted wrongs said out = (said ≡ None) × (out ≡ wrongs)
IsTold (begun.Leaks number found) wanted wrongs said out = (said ≡ Some ruling.Unsafe) × (out ≡ unsafe_at number found)
IsTold (begun.Stands text) wanted wrongs (Some said) out = IsToldBy text wanted said out
IsTold (begun.Stands text) wanted wrongs None out = ⊥

pub record IsTextJudged (text : List ℕ) (wanted : Wanted) (said : Option Ruling) (out : List ℕ) : Type 0 where
  pub to : Begun
  pub wrongs : List ℕ
  pub reads : ReadsDriver (driver_of text) to wrongs
  pub told : IsTold to wanted wrongs said out

-- ---- Line by line

pub record Ran : Type 0 where
  pub said : Option Ruling
  pub text : List ℕ

-- no other order was looked at
abbrev pub unsearched_text : (is_race : Bool) → List ℕ
unsearched_text true = codes "; the orders behind race were not searched"
unsearched_text false = []

abbrev pub nothing_wrong : (count : ℕ) → (is_race : Bool) → List ℕ
nothing_wrong count is_race = codes "nothing wrong in any of " ++ events_count count ++ unsearched_text is_race ++ 10 ∷ []

-- a line isn't permitted where it stands; something is wrong behind one; nothing is behind any
abbrev pub refused_run : Read → (place : ℕ) → Ran
refused_run read place = record { said = None; text = refused_at read place }

abbrev pub unsafe_run : (number : ℕ) → Wrong → Ran
unsafe_run number found = record { said = Some ruling.Unsafe; text = unsafe_at number found }

-- one that its thread has gone past isn't counted
abbrev pub count_taken : (taken : List Bool) → ℕ
count_taken taken = count_by (λ one. one) taken

abbrev pub right_run : Read → Spot → Ran
right_run read spot = record { said = Some ruling.Right; text = nothing_wrong (count_taken spot.taken) read.is_race }

abbrev pub ran_to : Read → Result Spot Halt → Ran
ran_to read (Ok spot) = right_run read spot
ran_to read (Err (halt.Refused place)) = refused_run read place
ran_to read (Err (halt.Leaks number found)) = unsafe_run number found

-- all lines are taken, those behind `race` in the order in which they stand
abbrev pub ran_of : Read → Ran
ran_of read = ran_to read (behind_first read.opening (length read.opening.lines.items))

abbrev pub IsRanBy : Option Read → (wrongs : List ℕ) → Option Ruling → (out : List ℕ) → Type 0
IsRanBy None wrongs said out = (said ≡ None) × (out ≡ wrongs)
IsRanBy (Some read) wrongs said out = (said ≡ (ran_of read).said) × (out ≡ (ran_of read).text)

pub record IsTextRun (text : List ℕ) (said : Option Ruling) (out : List ℕ) : Type 0 where
  pub read : Option Read
  pub wrongs : List ℕ
  pub reads : ReadsText (driver_of text) read wrongs
  pub ran : IsRanBy read wrongs said out

-- ---- What is written of it: all, or a prefix where writing failed; where memory lacked, nothing is

abbrev pub Judges : (text : List ℕ) → (wanted : Wanted) → (old new : Option (List ℕ)) → Result (Option Ruling) DriveFault → Type 0
Judges text wanted old new (Ok said) = (out : List ℕ) × IsTextJudged text wanted said out × Appends old new out
Judges text wanted old new (Err Write) =
    (out : List ℕ) × (said : Option Ruling) × IsTextJudged text wanted said out × AppendsPrefix old new out
Judges text wanted old new (Err fault) = AppendsPrefix old new []

abbrev pub Runs : (text : List ℕ) → (old new : Option (List ℕ)) → Result (Option Ruling) DriveFault → Type 0
Runs text old new (Ok said) = (out : List ℕ) × IsTextRun text said out × Appends old new out
Runs text old new (Err Write) = (out : List ℕ) × (said : Option Ruling) × IsTextRun text said out × AppendsPrefix old new out
Runs text old new (Err fault) = AppendsPrefix old new []
