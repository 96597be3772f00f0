-- A search that came to its end says what one of more moments says. So what is said of a text that shares the moments with others is what
-- a search of it alone says.
use Rattle.std.proofs.Common.{◌≡◌, ◌∙◌, ◌≤◌, ◌/◌, ◌⊎◌, ap, arith, inl, inr, refl, sym, subst, ℕ, Bool, true, false, List, [], ◌∷◌}
use Rattle.std.proofs.Common.{IfSome, Option, Some, None, Result, Ok, Err, is_none, option_map}
use Rattle.std.specs.List.{AllZip}
use Rattle.std.specs.declared.alloc.AllocError.{AllocError}
use Rattle.sva_search.specs.Found.{IsBudget}
use Rattle.sva_search.specs.declared.found.Found.{Found}
use Rattle.sva_race_texts.specs.Texts.{race_of}
use Rattle.sva_race_texts.specs.declared.kept.Text as race
use Rattle.sva_race_reports.specs.Explored.{IsExploredTo}
use Rattle.sva_race_reports.specs.Explored.{IsExplored as IsRaceExplored}
use Rattle.sva_race_reports.specs.declared.searching.Explored.{Explored}
use Rattle.sva_race_reports.proofs.Fronts.{says_other}
use Rattle.sva_why.specs.Why.{why_of}
use Rattle.sva_judge.specs.Verdicts.{AreMomentsApart, IsJudged as IsDriverJudged}
use Rattle.sva_open.specs.declared.drivers.Driver.{Driver}
use Rattle.sva_judge.specs.declared.verdicts.Verdict as judge
use Rattle.sva_judge.specs.declared.verdicts.Verdict.TheVariants as verdict
use Rattle.sva_driver_texts.specs.declared.kept.Begun.{Begun}
use Rattle.sva_driver_texts.specs.declared.kept.Begun.TheVariants as begun
use Rattle.sva_driver_reports.specs.Reports.{ruling_of}
use Rattle.sva_driver_reports.specs.declared.reports.Ruling.{Ruling}
use Rattle.sva_driver_reports.specs.Judged.{IsTold}
use Rattle.sva_several.specs.declared.given.Given.{Given}
use Rattle.sva_several.specs.declared.given.Given.TheVariants as given
use Rattle.sva_several.specs.declared.searching.Said.{Said}
use Rattle.sva_several.specs.declared.searching.Search.{Search}
use Rattle.sva_several.specs.declared.searching.Search.TheVariants.{Drivers, Lines, Races, Steps, Tests, Whys}
use Rattle.sva_several.specs.Searches.{IsExplored, IsFound, IsJudged, IsSaid, Tries, TriesDriver, TriesRace, is_ended, is_whole, line_of, wanted_of}
use Rattle.sva_several.specs.Sharing.{IsFoundBy, IsSaidBy, share_of, shared}

module _ (share most : ℕ) (less : share ≤ most) where
  -- so many are within the larger limit too
  larger_count : (count : ℕ) → (count ≡ 1) ⊎ (count ≤ share) → (count ≡ 1) ⊎ (count ≤ most)
  larger_count count (inl one) = inl one
  larger_count count (inr few) = inr (omega (arith, few, less))

  -- ---- Races

  none : {A : Type 0} (found : Option A) → is_none found ≡ true → found ≡ None
  none None is = refl
  none (Some found) is = absurd (cc is)

  larger_budget : {C O : Type 0} (found : Found C O) → found.cut ≡ None → IsBudget share found → IsBudget most found
  larger_budget found whole h = record {
    no_more = larger_count found.states h.no_more;
    spent = subst (λ (cut : Option ℕ). IfSome cut (λ depth. most ≤ found.states)) (sym whole) tt;
  }

  larger_race : (text : race.Text) (out : List ℕ) (said : Explored) → said.is_whole ≡ true → IsExploredTo why_of text (line_of share) out said
      → IsRaceExplored why_of text (line_of most) out said.judged
  larger_race text out said whole h =
      let explored = h.explored in
      let findings = explored.are_findings in record {
        found = explored.found;
        are_findings = record {
          at_moments = findings.at_moments;
          at_ends = findings.at_ends;
          ends = findings.ends;
          counted = findings.counted;
          budget = larger_budget explored.found (none explored.found.cut (sym h.whole ∙ whole)) findings.budget;
        };
        are_so = explored.are_so;
        are_told = explored.are_told;
        report = explored.report;
        verdict = explored.verdict;
      }

  ended_race : (text : List ℕ) (said : Said) → TriesRace share text said true → IsExplored most text said
  ended_race text said (found, verdict, whole, explores) = (
    option_map (λ found. found.judged) found,
    verdict,
    says_other why_of (λ (text : race.Text). IsExploredTo why_of text (line_of share) said.text.items)
        (λ (text : race.Text). IsRaceExplored why_of text (line_of most) said.text.items) (λ (said : Explored). said.judged) text (race_of text)
        said.text.items found
        (λ text one is h. larger_race text said.text.items one (sym (whole ∙ ap is_whole is)) h) explores,
  )

  -- ---- Drivers

  larger_moments : (driver : Driver) (moments : ℕ) → AreMomentsApart driver share moments → AreMomentsApart driver most moments
  larger_moments driver moments h = record {
    counts = h.counts;
    count = h.count;
    each = λ endpoint count at. let its = h.each endpoint count at in (its.0, its.1, its.2, larger_count count its.3);
    sum = h.sum;
  }

  larger_verdict : (driver : Driver) (verdict : judge.Verdict) → true ≡ is_ended (Some (ruling_of verdict)) → IsDriverJudged driver share verdict
      → IsDriverJudged driver most verdict
  larger_verdict driver (verdict.Safe moments looked) ended h = (h.0, h.1, h.2, larger_count moments h.3, h.4)
  larger_verdict driver (verdict.SafeApart moments looked) ended h = (h.0, h.1, larger_moments driver moments h.2, h.3)
  larger_verdict driver (verdict.Unsafe witness) ended h = h
  larger_verdict driver (verdict.Findings found moments None) ended h = (h.0, h.1, larger_count moments h.2, tt)
  larger_verdict driver (verdict.Findings found moments (Some events)) ended h = absurd (cc ended)
  larger_verdict driver (verdict.Stuck witness moments) ended h = (h.0, h.1, h.2, h.3, larger_count moments h.4)
  larger_verdict driver (verdict.CutOff moments events) ended h = absurd (cc ended)

  larger_told : (all : Bool) (to : Begun) (wrongs : List ℕ) (found : Option Ruling) (out : List ℕ) → true ≡ is_ended found
      → IsTold to (wanted_of share all) wrongs found out → IsTold to (wanted_of most all) wrongs found out
  larger_told all begun.Faulted wrongs found out ended h = h
  larger_told all (begun.Leaks number wrong) wrongs found out ended h = h
  larger_told all (begun.Stands text) wrongs None out ended h = absurd h
  larger_told all (begun.Stands text) wrongs (Some said) out ended h = record {
    verdict = h.verdict;
    asked = h.asked;
    holds = larger_verdict text.driver h.verdict (ended ∙ ap (λ said. is_ended (Some said)) h.ruling) h.holds;
    ruling = h.ruling;
    report = h.report;
  }

  ended_driver : (all : Bool) (text : List ℕ) (said : Said) → TriesDriver share all text said true → IsJudged most all text said
  ended_driver all text said (found, verdict, ended, h) = (
    found,
    verdict,
    record { to = h.to; wrongs = h.wrongs; reads = h.reads; told = larger_told all h.to h.wrongs found said.text.items ended h.told },
  )

-- ---- What a search says

explored_said : (most : ℕ) (text : List ℕ) (said : Said) (ended : Bool) → TriesRace most text said ended → IsExplored most text said
explored_said most text said ended (found, verdict, whole, explores) = (
  option_map (λ found. found.judged) found,
  verdict,
  says_other why_of (λ (text : race.Text). IsExploredTo why_of text (line_of most) said.text.items)
      (λ (text : race.Text). IsRaceExplored why_of text (line_of most) said.text.items) (λ (said : Explored). said.judged) text (race_of text)
      said.text.items found (λ text one is h. h.explored) explores,
)

pub tried_said : (search : Search) (text : Given) (said : Said) (ended : Bool) → Tries search text said ended → IsSaid search text said
tried_said search (given.Unread lack) said ended h = h.0
tried_said (Races most) (given.Text text) said ended h = explored_said most text.items said ended h
tried_said (Drivers most all strict) (given.Text text) said ended (found, verdict, _, judged) = (found, verdict, judged)
tried_said Lines (given.Text text) said ended h = h.0
tried_said Steps (given.Text text) said ended h = h.0
tried_said Tests (given.Text text) said ended h = h.0
tried_said Whys (given.Text text) said ended h = h.0

-- ---- Shares

pub share_within : (most jobs : ℕ) → share_of most jobs ≤ most
share_within most jobs = omega arith

-- who is alone has all
share_alone : (most : ℕ) → share_of most 1 ≡ most
share_alone most = let all : most / 1 ≡ most = omega arith in omega (arith, all)

pub shared_alone : (search : Search) → shared search 1 ≡ search
shared_alone (Races most) = ap Races (share_alone most)
shared_alone (Drivers most all strict) = ap (λ most. Drivers most all strict) (share_alone most)
shared_alone Lines = refl
shared_alone Steps = refl
shared_alone Tests = refl
shared_alone Whys = refl

-- ---- What is said of a text

-- a first search that came to its end, or of which no other has a share
pub first_ended : (search : Search) (jobs : ℕ) (text : Given) (said : Said) (ended : Bool) → ended ≡ true → Tries (shared search jobs) text said ended
    → IsSaidBy search jobs text said
first_ended search jobs text said ended is h = inl (subst (Tries (shared search jobs) text said) is h)

pub first_alone : (search : Search) (jobs : ℕ) (text : Given) (said : Said) (ended : Bool) → jobs ≡ 1 → Tries (shared search jobs) text said ended
    → IsSaidBy search jobs text said
first_alone search jobs text said true alone h = inl h
first_alone search jobs text said false alone h =
    inr ((said, h), subst (λ it. IsSaid it text said) (ap (shared search) alone ∙ shared_alone search) (tried_said (shared search jobs) text said false h))

pub said_alone : (search : Search) (jobs : ℕ) (text : Given) (said : Said) → IsSaidBy search jobs text said → IsSaid search text said
said_alone search jobs text said (inr (cut, says)) = says
said_alone search jobs (given.Unread lack) said (inl ended) = ended.0
said_alone (Races most) jobs (given.Text text) said (inl ended) =
    ended_race (share_of most jobs) most (share_within most jobs) text.items said ended
said_alone (Drivers most all strict) jobs (given.Text text) said (inl ended) =
    ended_driver (share_of most jobs) most (share_within most jobs) all text.items said ended
said_alone Lines jobs (given.Text text) said (inl ended) = ended.0
said_alone Steps jobs (given.Text text) said (inl ended) = ended.0
said_alone Tests jobs (given.Text text) said (inl ended) = ended.0
said_alone Whys jobs (given.Text text) said (inl ended) = ended.0

found_alone : (search : Search) (jobs : ℕ) (text : Given) (found : Result Said AllocError) → IsFoundBy search jobs text found
    → IsFound search text found
found_alone search jobs text (Ok said) h = said_alone search jobs text said h
found_alone search jobs text (Err fault) h = h

pub all_alone : (search : Search) (jobs : ℕ) (texts : List Given) (all : List (Result Said AllocError)) → AllZip (IsFoundBy search jobs) texts all
    → AllZip (IsFound search) texts all
all_alone search jobs [] [] h = h
all_alone search jobs [] (found ∷ all) h = h
all_alone search jobs (text ∷ texts) [] h = h
all_alone search jobs (text ∷ texts) (found ∷ all) h = (found_alone search jobs text found h.0, all_alone search jobs texts all h.1)
