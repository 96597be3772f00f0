-- What a call comes to that judges a driver, takes its lines, or explores a race. A text may have several reports, since
-- of several shortest witnesses one is told.
use Rattle.std.specs.Prelude.{◌⊎◌, ℕ, false, List, Option, Some, None}
use Rattle.sva_race_reports.specs.declared.judging.Judged.{Judged}
use Rattle.sva_race_reports.specs.declared.judging.Judged.TheVariants.{Holds, Fails, Unknown}
use Rattle.sva_race_reports.specs.declared.searching.Wanted.{Wanted}
use Rattle.sva_race_reports.specs.Explored.{ExploresText}
use Rattle.sva_why.specs.Why.{why_of}
use Rattle.sva_driver_reports.specs.declared.reports.Ruling.{Ruling}
use Rattle.sva_driver_reports.specs.declared.reports.Ruling.TheVariants.{Safe, Untried, Right, Unsafe, UnsafeSoFar, Stuck, CutOff}
use Rattle.sva_driver_reports.specs.declared.wanted.Wanted as driver
use Rattle.sva_driver_reports.specs.Judged.{IsTextJudged, IsTextRun}
use Rattle.sva_c.specs.Buffers.{IsHandedOver, LacksMemory}
use Rattle.sva_c.specs.declared.statuses.TheConstants.{CUT_OFF, DONE, FAILS, FAULTED}

-- how it is told what is said of a driver; of one with wrong lines nothing is
abbrev pub ruled_status : Option Ruling → ℕ
ruled_status None = FAULTED
ruled_status (Some Safe) = DONE
ruled_status (Some Untried) = DONE
ruled_status (Some Right) = DONE
ruled_status (Some Unsafe) = FAILS
ruled_status (Some UnsafeSoFar) = FAILS
ruled_status (Some Stuck) = FAILS
ruled_status (Some CutOff) = CUT_OFF

-- and of all claims of a race together
abbrev pub explored_status : Option Judged → ℕ
explored_status None = FAULTED
explored_status (Some Holds) = DONE
explored_status (Some Fails) = FAILS
explored_status (Some Unknown) = CUT_OFF

-- the whole report of a race, without what `--why` adds
abbrev pub whole_report : (most : ℕ) → Wanted
whole_report most = record { most = most; whys = false; few_ends = false; is_brief = false }

-- of a driver a nearest finding, with its witness
abbrev pub nearest : (most : ℕ) → driver.Wanted
nearest most = record { most = most; all = false; lines_alone = false }

-- what was handed over is such a report, with how it is told
abbrev pub HandsOver : {A : Type 0} → (IsSaid : A → List ℕ → Type 0) → (told : A → ℕ) → (old new : List ℕ) → (needed status : ℕ) → Type 0
HandsOver {A} IsSaid told old new needed status =
    (said : A) × (report : List ℕ) × IsSaid said report × IsHandedOver report (told said) old new needed status

-- what a call comes to, of which the definitions say this of its text
abbrev pub Judges : (text : List ℕ) → (most : ℕ) → (old new : List ℕ) → (needed status : ℕ) → Type 0
Judges text most old new needed status =
    HandsOver (IsTextJudged text (nearest most)) ruled_status old new needed status ⊎ LacksMemory old new needed status

abbrev pub Runs : (text old new : List ℕ) → (needed status : ℕ) → Type 0
Runs text old new needed status =
    HandsOver (IsTextRun text) ruled_status old new needed status ⊎ LacksMemory old new needed status

abbrev pub Explores : (text : List ℕ) → (most : ℕ) → (old new : List ℕ) → (needed status : ℕ) → Type 0
Explores text most old new needed status =
    HandsOver (λ judged report. ExploresText why_of text (whole_report most) report judged) explored_status old new needed status
    ⊎ LacksMemory old new needed status
