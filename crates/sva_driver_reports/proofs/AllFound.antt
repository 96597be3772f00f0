-- What is told of a driver of which all findings are wanted is so.
use Rattle.std.proofs.Common.{◌≡◌, ◌∙◌, ◌⊎◌, ap, inl, inr, refl, subst, sym, ℕ, suc, List, [], ◌∷◌, ◌++◌, Bool, true, false, length}
use Rattle.std.proofs.Common.{Some, Result, Ok, Err}
use Rattle.std.specs.Prelude.{codes, flat_map, if◌then◌else◌, slice_get}
use Rattle.sva_judge.specs.Findings.{Shows}
use Rattle.sva_judge.specs.Spots.{Spot, start_of}
use Rattle.sva_judge.specs.Verdicts.{IsAsked, IsJudged}
use Rattle.sva_judge.specs.declared.findings.Finding.{Finding}
use Rattle.sva_judge.specs.declared.verdicts.Verdict.{Verdict}
use Rattle.sva_judge.specs.declared.verdicts.Verdict.TheVariants as verdict
use Rattle.sva_driver_texts.specs.Texts.{DriverRead, IsRead, IsText, ReadsDriver, StandsAt, StandsBy, behind_first, driver_of}
use Rattle.sva_driver_texts.specs.declared.kept.Begun.{Begun}
use Rattle.sva_driver_texts.specs.declared.kept.Begun.TheVariants as begun
use Rattle.sva_driver_texts.specs.declared.kept.Halt.{Halt}
use Rattle.sva_driver_texts.specs.declared.kept.Halt.TheVariants as halt
use Rattle.sva_driver_texts.specs.declared.kept.Read.{Read}
use Rattle.sva_driver_texts.specs.declared.kept.Text.{Text}
use Rattle.sva_driver_reports.specs.Findings.{wrong_text}
use Rattle.sva_driver_reports.specs.Judged.{IsTold, IsToldBy}
use Rattle.sva_driver_reports.specs.Nevers.{is_tried}
use Rattle.sva_driver_reports.specs.Reports.{events_by, events_count, found_text, report_text, ruling_of}
use Rattle.sva_driver_reports.specs.Witness.{event_line, front_text, width_from}
use Rattle.sva_driver_reports.specs.Witnesses.{FindingsAreTold, HasFindings, HasLeak, HasRead, IsUnsafe, TellEach, TellsFinding}
use Rattle.sva_driver_reports.specs.declared.reports.Ruling.{Ruling}
use Rattle.sva_driver_reports.specs.declared.reports.Ruling.TheVariants as ruling
use Rattle.sva_driver_reports.specs.declared.wanted.Wanted.{Wanted}
use Rattle.sva_driver_reports.proofs.Witnesses.{IsFit, fits, leak_told, walked}

-- ---- The report

-- what is told of a finding, with its lines
abbrev found_by : Text → Finding → (count : ℕ) → (lines : List ℕ) → List ℕ
found_by text one count lines =
    (codes "unsafe in " ++ events_count count ++ codes ": " ++ wrong_text one.wrong ++ 10 ∷ []) ++ (front_text text ++ lines)

tells : (text : Text) (one : Finding) → IsFit text → Shows text.driver one.wrong one.witness.items → TellsFinding text one (found_text text false one)
tells text one fit shows =
    let choices = one.witness.items in
    let walk = walked text fit (width_from 0 (events_by text choices)) choices (start_of text.driver) shows.0 shows.1 in
    record {
      lines = walk.lines;
      last = shows.0;
      told = walk.told;
      wrong = shows.2;
      report = ap (λ n. found_by text one n (flat_map (event_line (width_from 0 (events_by text choices))) (events_by text choices))) (sym walk.many)
          ∙ ap (λ lines. found_by text one (length walk.lines) lines) walk.says;
    }

tell_each : (text : Text) (found : List Finding) → IsFit text
    → ((k : ℕ) (one : Finding) → slice_get found k ≡ Some one → Shows text.driver one.wrong one.witness.items)
    → TellEach text found (flat_map (found_text text false) found)
tell_each text [] fit reached = refl
tell_each text (one ∷ found) fit reached = (
  found_text text false one,
  flat_map (found_text text false) found,
  tells text one fit (reached 0 one refl),
  tell_each text found fit (λ k its at. reached (suc k) its at),
  refl,
)

-- no other verdict is told as unsafe, where all findings are wanted
not_safe : (said : Ruling) (tried : Bool) → IsUnsafe said → said ≡ (if tried then ruling.Safe else ruling.Untried) → ⊥
not_safe said true (inl is) rules = cc (is, rules)
not_safe said false (inl is) rules = cc (is, rules)
not_safe said true (inr is) rules = cc (is, rules)
not_safe said false (inr is) rules = cc (is, rules)

not_stuck : (said : Ruling) → IsUnsafe said → said ≡ ruling.Stuck → ⊥
not_stuck said (inl is) rules = cc (is, rules)
not_stuck said (inr is) rules = cc (is, rules)

not_cut : (said : Ruling) → IsUnsafe said → said ≡ ruling.CutOff → ⊥
not_cut said (inl is) rules = cc (is, rules)
not_cut said (inr is) rules = cc (is, rules)

all_by : (text : Text) (most : ℕ) (said : Ruling) (it : Verdict) (out : List ℕ) → IsFit text → IsUnsafe said
    → IsJudged text.driver most it → IsAsked true it → said ≡ ruling_of it → out ≡ report_text text false it → HasFindings text said out
all_by text most said (verdict.Findings found moments cut) out fit unsafe holds asked rules is = record {
  found = found.items;
  cut = cut;
  moments = moments;
  rules = rules;
  are = holds.0;
  each = flat_map (found_text text false) found.items;
  told = tell_each text found.items fit holds.0.reached;
  report = is;
}
all_by text most said (verdict.Unsafe witness) out fit unsafe holds asked rules is = absurd asked
all_by text most said (verdict.Safe moments looked) out fit unsafe holds asked rules is = absurd (not_safe said (is_tried looked.items) unsafe rules)
all_by text most said (verdict.SafeApart moments looked) out fit unsafe holds asked rules is =
    absurd (not_safe said (is_tried looked.items) unsafe rules)
all_by text most said (verdict.Stuck witness moments) out fit unsafe holds asked rules is = absurd (not_stuck said unsafe rules)
all_by text most said (verdict.CutOff moments events) out fit unsafe holds asked rules is = absurd (not_cut said unsafe rules)

told_all : (text : Text) (wanted : Wanted) (said : Ruling) (out : List ℕ) → IsFit text → wanted.all ≡ true → wanted.lines_alone ≡ false
    → IsUnsafe said → IsToldBy text wanted said out → HasFindings text said out
told_all text wanted said out fit all whole unsafe told =
    all_by text wanted.most said told.verdict out fit unsafe told.holds (subst (λ b. IsAsked b told.verdict) all told.asked) told.ruling
    (subst (λ b. out ≡ report_text text b told.verdict) whole told.report)

-- ---- The law

abbrev FoundIn : Read → Ruling → (out : List ℕ) → Type 0
FoundIn read said out = HasLeak read.opening read.before out ⊎ ((behind : Text) × IsText read behind × HasFindings behind said out)

module _ (text : List ℕ) (from : DriverRead) (read : Read) (wanted : Wanted) (said : Ruling) (wrongs out : List ℕ) (is : driver_of text ≡ Ok from)
    (reads : IsRead from read) (all : wanted.all ≡ true) (whole : wanted.lines_alone ≡ false) (unsafe : IsUnsafe said) where
  all_at : (led : Result Spot Halt) (to : Begun) → behind_first read.opening read.before ≡ led → StandsAt read led to wrongs
      → IsTold to wanted wrongs (Some said) out → FoundIn read said out
  all_at (Ok spot) (begun.Stands behind) led stands told =
      inr (behind, stands.0, told_all behind wanted said out (fits text from read behind is reads stands.0) all whole unsafe told)
  all_at (Ok spot) (begun.Leaks number found) led stands told = absurd stands
  all_at (Ok spot) begun.Faulted led stands told = absurd stands
  all_at (Err (halt.Refused place)) begun.Faulted led stands told = absurd (cc told.0)
  all_at (Err (halt.Refused place)) (begun.Leaks number found) led stands told = absurd stands
  all_at (Err (halt.Refused place)) (begun.Stands text) led stands told = absurd stands
  all_at (Err (halt.Leaks number found)) to led stands told =
      let leaks = subst (λ (it : Begun). IsTold it wanted wrongs (Some said) out) stands.0 told in
      inl (subst (HasLeak read.opening read.before) (sym leaks.1) (leak_told read.opening number found read.before led))

  all_in : (is_race : Bool) (to : Begun) → StandsBy read is_race to wrongs → IsTold to wanted wrongs (Some said) out → FoundIn read said out
  all_in true to stands told = all_at (behind_first read.opening read.before) to refl stands told
  all_in false to stands told =
      let faulted = subst (λ (it : Begun). IsTold it wanted wrongs (Some said) out) stands.0 told in
      absurd (cc faulted.0)

all_told : (text : List ℕ) (led : Result DriverRead (List ℕ)) (wanted : Wanted) (said : Ruling) (to : Begun) (wrongs out : List ℕ) → driver_of text ≡ led
    → ReadsDriver led to wrongs → wanted.all ≡ true → wanted.lines_alone ≡ false → IsUnsafe said → IsTold to wanted wrongs (Some said) out
    → HasRead text (λ (read : Read). FoundIn read said out)
all_told text (Err lines) wanted said to wrongs out is reads all whole unsafe told =
    let faulted = subst (λ (it : Begun). IsTold it wanted wrongs (Some said) out) reads.0 told in
    absurd (cc faulted.0)
all_told text (Ok from) wanted said to wrongs out is reads all whole unsafe told =
    (from, reads.0, is, reads.1, all_in text from reads.0 wanted said wrongs out is reads.1 all whole unsafe reads.0.is_race to reads.2 told)

pub findings_are_told : FindingsAreTold
findings_are_told text wanted said out all whole unsafe judged =
    all_told text (driver_of text) wanted said judged.to judged.wrongs out refl judged.reads all whole unsafe judged.told
