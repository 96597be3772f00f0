-- What comes of a text, by what was read of it.
use Rattle.std.proofs.Common.{◌≡◌, ◌∙◌, ap, refl, ℕ, List, [], ◌++◌, Bool, true, false, Option, Some, None}
use Rattle.std.specs.Prelude.{IfOk, OnOk, Result, Ok, Err}
use Rattle.std.specs.declared.alloc.AllocError.{AllocError}
use Rattle.sva_open_safe.specs.declared.wrongs.Wrong.{Wrong}
use Rattle.sva_judge.specs.Spots.{Spot}
use Rattle.sva_judge.specs.Verdicts.{IsAsked, IsJudged}
use Rattle.sva_judge.specs.declared.verdicts.Verdict.{Verdict}
use Rattle.sva_driver_texts.proofs.Stands.{nothing_said}
use Rattle.sva_driver_texts.specs.Texts.{DriverRead, ReadsDriver, ReadsText, StandsAt, StandsBy, driver_of}
use Rattle.sva_driver_texts.specs.declared.kept.Begun.{Begun}
use Rattle.sva_driver_texts.specs.declared.kept.Begun.TheVariants as begun
use Rattle.sva_driver_texts.specs.declared.kept.Halt.{Halt}
use Rattle.sva_driver_texts.specs.declared.kept.Halt.TheVariants as halt
use Rattle.sva_driver_texts.specs.declared.kept.Read.{Read}
use Rattle.sva_driver_texts.specs.declared.kept.Text.{Text}
use Rattle.sva_driver_reports.specs.Reports.{report_text, ruling_of}
use Rattle.sva_driver_reports.specs.declared.reports.Ruling.{Ruling}
use Rattle.sva_driver_reports.specs.Judged.{IsTextJudged, IsTextRun, IsToldBy, ran_of, unsafe_at, unsafe_run}
use Rattle.sva_driver_reports.specs.declared.wanted.Wanted.{Wanted}

-- where lines before `race` aren't told to be wrong, nothing is said yet
stands_silent : (kept : Read) (led : Result Spot Halt) (to : Begun) (out : List ℕ) → StandsAt kept led to out → (to ≡ begun.Faulted → ⊥) → out ≡ []
stands_silent kept (Ok spot) (begun.Stands text) out h other = h.1
stands_silent kept (Ok spot) (begun.Leaks number found) out h other = absurd h
stands_silent kept (Ok spot) begun.Faulted out h other = absurd h
stands_silent kept (Err (halt.Refused place)) begun.Faulted out h other = absurd (other refl)
stands_silent kept (Err (halt.Refused place)) (begun.Leaks number found) out h other = absurd h
stands_silent kept (Err (halt.Refused place)) (begun.Stands text) out h other = absurd h
stands_silent kept (Err (halt.Leaks number found)) to out h other = h.1

by_race : (kept : Read) (is_race : Bool) (to : Begun) (out : List ℕ) → StandsBy kept is_race to out → (to ≡ begun.Faulted → ⊥) → out ≡ []
by_race kept true to out h other = stands_silent kept _ to out h other
by_race kept false to out h other = absurd (other h.0)

pub silent_driver : (read : Result DriverRead (List ℕ)) (to : Begun) (out : List ℕ) → ReadsDriver read to out → (to ≡ begun.Faulted → ⊥) → out ≡ []
silent_driver (Err said) to out h other = absurd (other h.0)
silent_driver (Ok read) to out h other = by_race h.0 h.0.is_race to out h.2 other

pub told_by : (text : Text) (wanted : Wanted) (verdict : Verdict) (old new : List ℕ) (said : Ruling) → IsJudged text.driver wanted.most verdict
    → IsAsked wanted.all verdict → old ≡ [] → new ≡ old ++ report_text text wanted.lines_alone verdict → said ≡ ruling_of verdict
    → IsToldBy text wanted said new
told_by text wanted verdict old new said holds asked none is rules = record {
  verdict = verdict;
  holds = holds;
  asked = asked;
  ruling = rules;
  report = is ∙ ap (λ l. l ++ report_text text wanted.lines_alone verdict) none;
}

pub unread_judged : (text : List ℕ) (wanted : Wanted) (out : List ℕ) → ReadsDriver (driver_of text) begun.Faulted out → IsTextJudged text wanted None out
unread_judged text wanted out h = record { to = begun.Faulted; wrongs = out; reads = h; told = (refl, refl) }

pub leak_judged : (text : List ℕ) (wanted : Wanted) (number : ℕ) (found : Wrong) (mid out : List ℕ) (result : Result (Option Ruling) AllocError)
    → ReadsDriver (driver_of text) (begun.Leaks number found) mid → IfOk result (λ said. said ≡ (unsafe_run number found).said)
    → OnOk result (out ≡ mid ++ (unsafe_run number found).text) → IfOk result (λ said. IsTextJudged text wanted said out)
leak_judged text wanted number found mid out (Ok said) h is says = record {
  to = begun.Leaks number found;
  wrongs = mid;
  reads = h;
  told = (
    is,
    says ∙ ap (λ l. l ++ unsafe_at number found) (silent_driver (driver_of text) (begun.Leaks number found) mid h (λ same. absurd (cc same))),
  );
}
leak_judged text wanted number found mid out (Err lack) h is says = tt

pub read_judged : (text : List ℕ) (wanted : Wanted) (read : Text) (mid out : List ℕ) (said : Ruling) → ReadsDriver (driver_of text) (begun.Stands read) mid
    → IsToldBy read wanted said out → IsTextJudged text wanted (Some said) out
read_judged text wanted read mid out said h told = record { to = begun.Stands read; wrongs = mid; reads = h; told = told }

pub unread_run : (text out : List ℕ) → ReadsText (driver_of text) None out → IsTextRun text None out
unread_run text out h = record { read = None; wrongs = out; reads = h; ran = (refl, refl) }

pub read_run : (text : List ℕ) (read : Read) (mid out : List ℕ) (said : Option Ruling) → ReadsText (driver_of text) (Some read) mid
    → said ≡ (ran_of read).said → out ≡ mid ++ (ran_of read).text → IsTextRun text said out
read_run text read mid out said h is says = record {
  read = Some read;
  wrongs = mid;
  reads = h;
  ran = (is, says ∙ ap (λ l. l ++ (ran_of read).text) (nothing_said (driver_of text) read mid h));
}
