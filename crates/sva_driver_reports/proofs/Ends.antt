-- What is told of a driver that is stuck is so.
use Rattle.std.proofs.Common.{◌≡◌, ◌∙◌, ◌≤◌, ap, refl, subst, sym, ℕ, List, ◌∷◌, ◌++◌, Bool, true, false, length, Option, Some, None, Result, Ok, Err}
use Rattle.std.specs.Prelude.{codes, flat_map, if◌then◌else◌}
use Rattle.sva_judge.specs.Spots.{Spot, start_of}
use Rattle.sva_judge.specs.Verdicts.{IsAlwaysSafe, IsJudged, IsStuck}
use Rattle.sva_judge.specs.declared.choices.Choice.{Choice}
use Rattle.sva_judge.specs.declared.verdicts.Verdict.{Verdict}
use Rattle.sva_judge.specs.declared.verdicts.Verdict.TheVariants as verdict
use Rattle.sva_driver_texts.specs.Texts.{DriverRead, IsRead, IsText, ReadsDriver, StandsAt, StandsBy, behind_first, driver_of}
use Rattle.sva_driver_texts.specs.declared.kept.Begun.{Begun}
use Rattle.sva_driver_texts.specs.declared.kept.Begun.TheVariants as begun
use Rattle.sva_driver_texts.specs.declared.kept.Halt.{Halt}
use Rattle.sva_driver_texts.specs.declared.kept.Halt.TheVariants as halt
use Rattle.sva_driver_texts.specs.declared.kept.Read.{Read}
use Rattle.sva_driver_texts.specs.declared.kept.Text.{Text}
use Rattle.sva_driver_reports.specs.Judged.{IsTold, IsToldBy}
use Rattle.sva_driver_reports.specs.Nevers.{is_tried}
use Rattle.sva_driver_reports.specs.Reports.{behind, budgets_text, events_by, events_count, others_text, parts_from, report_text, ruling_of, ruling_of_all}
use Rattle.sva_driver_reports.specs.Reports.{stuck_text, waiting_text}
use Rattle.sva_driver_reports.specs.Witness.{event_line, front_text, width_from}
use Rattle.sva_driver_reports.specs.Witnesses.{EndsAreTold, HasEnd, HasRead}
use Rattle.sva_driver_reports.specs.declared.reports.Ruling.TheVariants as ruling
use Rattle.sva_driver_reports.specs.declared.wanted.Wanted.{Wanted}
use Rattle.sva_driver_reports.proofs.Witnesses.{IsFit, fits, walked}

-- ---- The report

-- the report of so many events that lead to a moment, with their lines
abbrev stuck_by : Text → (count : ℕ) → Spot → (lines : List ℕ) → List ℕ
stuck_by text count last lines =
    codes "stuck in " ++ events_count count ++ codes ": " ++ waiting_text text last
    ++ 10 ∷ others_text text last ++ parts_from 0 last.world.parts ++ budgets_text (codes "# ") text ++ (front_text text ++ lines)

end_of : (text : Text) (choices : List Choice) (out : List ℕ) → IsFit text → IsAlwaysSafe text.driver → IsStuck text.driver choices
    → ((other : List Choice) → IsStuck text.driver other → length choices ≤ length other) → out ≡ stuck_text text choices → HasEnd text out
end_of text choices out fit safe stuck shortest is =
    let walk = walked text fit (width_from 0 (events_by text choices)) choices (start_of text.driver) stuck.0 stuck.1 in
    let said = flat_map (event_line (width_from 0 (events_by text choices))) (events_by text choices) in
    record {
      choices = choices;
      shortest = shortest;
      safe = safe;
      lines = walk.lines;
      last = stuck.0;
      told = walk.told;
      ends = stuck.2;
      waits = stuck.3;
      report = is
          ∙ ap (λ n. stuck_by text n (behind text choices) said) (sym walk.many)
          ∙ ap (λ spot. stuck_by text (length walk.lines) spot said) walk.leads
          ∙ ap (λ lines. stuck_by text (length walk.lines) stuck.0 lines) walk.says;
    }

-- no other verdict is told as stuck
stuck_alone : (tried : Bool) → ruling.Stuck ≡ (if tried then ruling.Safe else ruling.Untried) → ⊥
stuck_alone true is = cc is
stuck_alone false is = cc is

none_found : (cut : Option ℕ) → ruling.Stuck ≡ ruling_of_all cut → ⊥
none_found None is = cc is
none_found (Some events) is = cc is

end_by : (text : Text) (most : ℕ) (brief : Bool) (it : Verdict) (out : List ℕ) → IsFit text
    → IsJudged text.driver most it → ruling.Stuck ≡ ruling_of it → out ≡ report_text text brief it → HasEnd text out
end_by text most brief (verdict.Stuck witness moments) out fit holds rules is = end_of text witness.items out fit holds.0 holds.1 holds.2 is
end_by text most brief (verdict.Safe moments looked) out fit holds rules is = absurd (stuck_alone (is_tried looked.items) rules)
end_by text most brief (verdict.SafeApart moments looked) out fit holds rules is = absurd (stuck_alone (is_tried looked.items) rules)
end_by text most brief (verdict.Unsafe witness) out fit holds rules is = absurd (cc rules)
end_by text most brief (verdict.Findings found moments cut) out fit holds rules is = absurd (none_found cut rules)
end_by text most brief (verdict.CutOff moments events) out fit holds rules is = absurd (cc rules)

told_stuck : (text : Text) (wanted : Wanted) (out : List ℕ) → IsFit text → IsToldBy text wanted ruling.Stuck out → HasEnd text out
told_stuck text wanted out fit told = end_by text wanted.most wanted.lines_alone told.verdict out fit told.holds told.ruling told.report

-- ---- The law

abbrev EndsIn : Read → (out : List ℕ) → Type 0
EndsIn read out = (behind : Text) × IsText read behind × HasEnd behind out

module _ (text : List ℕ) (from : DriverRead) (read : Read) (wanted : Wanted) (wrongs out : List ℕ)
    (is : driver_of text ≡ Ok from) (reads : IsRead from read) where
  ended_at : (led : Result Spot Halt) (to : Begun) → StandsAt read led to wrongs → IsTold to wanted wrongs (Some ruling.Stuck) out → EndsIn read out
  ended_at (Ok spot) (begun.Stands behind) stands told =
      (behind, stands.0, told_stuck behind wanted out (fits text from read behind is reads stands.0) told)
  ended_at (Ok spot) (begun.Leaks number found) stands told = absurd stands
  ended_at (Ok spot) begun.Faulted stands told = absurd stands
  ended_at (Err (halt.Refused place)) begun.Faulted stands told = absurd (cc told.0)
  ended_at (Err (halt.Refused place)) (begun.Leaks number found) stands told = absurd stands
  ended_at (Err (halt.Refused place)) (begun.Stands text) stands told = absurd stands
  ended_at (Err (halt.Leaks number found)) to stands told =
      let leaks = subst (λ (it : Begun). IsTold it wanted wrongs (Some ruling.Stuck) out) stands.0 told in
      absurd (cc leaks.0)

  ended_by : (is_race : Bool) (to : Begun) → StandsBy read is_race to wrongs → IsTold to wanted wrongs (Some ruling.Stuck) out → EndsIn read out
  ended_by true to stands told = ended_at (behind_first read.opening read.before) to stands told
  ended_by false to stands told =
      let faulted = subst (λ (it : Begun). IsTold it wanted wrongs (Some ruling.Stuck) out) stands.0 told in
      absurd (cc faulted.0)

ended : (text : List ℕ) (led : Result DriverRead (List ℕ)) (wanted : Wanted) (to : Begun) (wrongs out : List ℕ)
    → driver_of text ≡ led → ReadsDriver led to wrongs → IsTold to wanted wrongs (Some ruling.Stuck) out → HasRead text (λ (read : Read). EndsIn read out)
ended text (Err said) wanted to wrongs out is reads told =
    let faulted = subst (λ (it : Begun). IsTold it wanted wrongs (Some ruling.Stuck) out) reads.0 told in
    absurd (cc faulted.0)
ended text (Ok from) wanted to wrongs out is reads told =
    (from, reads.0, is, reads.1, ended_by text from reads.0 wanted wrongs out is reads.1 reads.0.is_race to reads.2 told)

pub ends_are_told : EndsAreTold
ends_are_told text wanted out judged = ended text (driver_of text) wanted judged.to judged.wrongs out refl judged.reads judged.told
