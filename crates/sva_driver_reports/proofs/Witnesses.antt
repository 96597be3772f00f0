-- What is told of a driver that is unsafe is so.
use Rattle.std.proofs.Common.{◌≡◌, ◌∙◌, ◌⊎◌, ◌≤◌, ap, arith, inl, inr, refl, subst, sym, ℕ, zero, suc, List, [], ◌∷◌, ◌++◌}
use Rattle.std.proofs.Common.{Bool, true, false, length, Option, Some, None, Result, Ok, Err}
use Rattle.std.proofs.lemmas.List.{length-map}
use Rattle.std.proofs.lemmas.Option.{same_Some}
use Rattle.std.specs.Global.{Global}
use Rattle.std.specs.Prelude.{Vec, ◌-◌, codes, flat_map, if◌then◌else◌, replicate, slice_get}
use Rattle.sva_grammar.specs.Grammar.{◌>>=◌}
use Rattle.sva_grammar.specs.Replies.{ended}
use Rattle.sva_search.specs.Rules.{run_from}
use Rattle.sva_open.specs.World.{Open, Part}
use Rattle.sva_open.specs.Checks.{is_safe}
use Rattle.sva_open.specs.Safe.{IsSafe}
use Rattle.sva_open.specs.declared.acts.LocalAct.{LocalAct}
use Rattle.sva_open.specs.declared.drivers.Budget.{Budget}
use Rattle.sva_open.specs.declared.drivers.Device.{Device}
use Rattle.sva_open.specs.declared.drivers.Driver.{Driver}
use Rattle.sva_open.specs.declared.drivers.Line.{Line}
use Rattle.sva_open_safe.proofs.Tested.{is_test_of}
use Rattle.sva_open_safe.proofs.WrongsAndSafety.{nothing_where_safe}
use Rattle.sva_open_safe.specs.Wrongs.{first_wrong}
use Rattle.sva_open_safe.specs.declared.wrongs.Wrong.{Wrong}
use Rattle.sva_judge.specs.Choices.{act_of, behind_choice, behind_line, behind_own, is_open_to, next_in, own_act}
use Rattle.sva_judge.specs.Rules.{rules_of}
use Rattle.sva_judge.specs.Spots.{Spot, start_of}
use Rattle.sva_judge.specs.Verdicts.{IsAsked, IsJudged, IsLeak}
use Rattle.sva_judge.specs.declared.choices.Choice.{Choice}
use Rattle.sva_judge.specs.declared.choices.Doing.{Doing}
use Rattle.sva_judge.specs.declared.choices.Doing.TheVariants as doing
use Rattle.sva_judge.specs.declared.verdicts.Verdict.{Verdict}
use Rattle.sva_judge.specs.declared.verdicts.Verdict.TheVariants as verdict
use Rattle.sva_driver_texts.specs.Texts.{DriverRead, IsRead, IsText, ReadsDriver, ReadsText, StandsAt, StandsBy, behind_first, behind_next, by_next}
use Rattle.sva_driver_texts.specs.Texts.{done_of, done_seen, driver_of, is_left_out, line_choice, number_of, told_of, told_seen}
use Rattle.sva_driver_texts.specs.Texts.{unless_wrong}
use Rattle.sva_driver_texts.specs.declared.kept.Begun.{Begun}
use Rattle.sva_driver_texts.specs.declared.kept.Begun.TheVariants as begun
use Rattle.sva_driver_texts.specs.declared.kept.Halt.{Halt}
use Rattle.sva_driver_texts.specs.declared.kept.Halt.TheVariants as halt
use Rattle.sva_driver_texts.specs.declared.kept.Read.{Read}
use Rattle.sva_driver_texts.specs.declared.kept.Said.{Said}
use Rattle.sva_driver_texts.specs.declared.kept.Text.{Text}
use Rattle.sva_driver_reports.specs.Events.{local_text}
use Rattle.sva_driver_reports.specs.Findings.{wrong_text}
use Rattle.sva_driver_reports.specs.Judged.{IsRanBy, IsTold, IsToldBy, ran_to, unsafe_at}
use Rattle.sva_driver_reports.specs.Nevers.{is_tried}
use Rattle.sva_driver_reports.specs.Reports.{behind, events_by, events_count, finding_text, report_text, ruling_of}
use Rattle.sva_driver_reports.specs.Witness.{EventSaid, act_event, answer_of, comment_line, doing_line, event_by, event_line, event_of}
use Rattle.sva_driver_reports.specs.Witness.{events_from, front_text, is_comment, last_spot, line_event, line_who, spot_behind, who_text}
use Rattle.sva_driver_reports.specs.Witness.{width_from, with_event}
use Rattle.sva_driver_reports.proofs.OneLines.{blanks_one, both}
use Rattle.sva_driver_reports.proofs.ReadLines.{AreWhole, are_whole, event_whole}
use Rattle.sva_driver_reports.specs.Witnesses.{AreTold, HasLeak, HasRead, HasWitness, IsLineBy, IsOneLine, LeaksAreTold, WitnessesAreTold}
use Rattle.sva_driver_reports.specs.declared.reports.Ruling.TheVariants as ruling
use Rattle.sva_driver_reports.specs.declared.wanted.Wanted.{Wanted}

-- ---- What isn't safe has something wrong

finding : (now : Open) → (IsSafe now → ⊥) → (found : Wrong) × (first_wrong now ≡ Some found)
finding now leaks = by_found (first_wrong now) refl
  where
    by_found : (it : Option Wrong) → first_wrong now ≡ it → (found : Wrong) × (first_wrong now ≡ Some found)
    by_found None is = absurd (leaks ((is_test_of now (is_safe now) refl).0 ((nothing_where_safe now).0 is)))
    by_found (Some found) is = (found, is)

-- ---- A choice that is permitted has its event

-- of each line something is told, in which no line ends
pub record IsFit (text : Text) : Type 0 where
  pub many : length text.said.items ≡ length text.driver.lines.items
  pub whole : AreWhole text.said.items

taken : (test : Bool) (led : Option Spot) (new : Spot) → (if test then led else None) ≡ Some new → led ≡ Some new
taken true led new is = is
taken false led new is = absurd (cc is)

line_there : (spot : Spot) (place : ℕ) (line : Option Line) (new : Spot) → behind_line spot place line ≡ Some new → (it : Line) × (line ≡ Some it)
line_there spot place None new is = absurd (cc is)
line_there spot place (Some it) new is = (it, refl)

act_there : (spot : Spot) (own : Doing) (at : ℕ) (left : Option Budget) (its : Option LocalAct) (new : Spot)
    → behind_own spot own at left its ≡ Some new → (it : LocalAct) × (its ≡ Some it)
act_there spot own at None its new is = absurd (cc is)
act_there spot own at (Some left) None new is = absurd (cc is)
act_there spot own at (Some left) (Some it) new is = (it, refl)

part_there : (driver : Driver) (own : Doing) (number : ℕ) (device : Option Device) (part : Option Part) (its : LocalAct)
    → own_act driver own number device part ≡ Some its → (it : Part) × (part ≡ Some it)
part_there driver own number None part its is = absurd (cc is)
part_there driver own number (Some device) None its is = absurd (cc is)
part_there driver own number (Some device) (Some it) its is = (it, refl)

-- of lists of one length, the one has an element where the other has one
beside : {A B : Type 0} (xs : List A) (ys : List B) (n : ℕ) (y : B) → length xs ≡ length ys → slice_get ys n ≡ Some y → (x : A) × (slice_get xs n ≡ Some x)
beside [] [] n y same is = absurd (cc is)
beside [] (y ∷ ys) n z same is = absurd (omega (arith, same))
beside (x ∷ xs) [] n y same is = absurd (omega (arith, same))
beside (x ∷ xs) (y ∷ ys) zero z same is = (x, refl)
beside (x ∷ xs) (y ∷ ys) (suc n) z same is = beside xs ys n z (omega (arith, same)) is

module _ (text : Text) (many : length text.said.items ≡ length text.driver.lines.items) (spot new : Spot) where
  line_said : (at number : ℕ) → behind_choice text.driver spot doing.Line at number ≡ Some new
      → (event : EventSaid) × (event_by text spot doing.Line at number ≡ Some event)
  line_said at number is =
      let line = line_there spot number (slice_get text.driver.lines.items number) new is in
      let said = beside text.said.items text.driver.lines.items number line.0 many line.1 in (
        record {
          text = said.0.text.items ++ answer_of spot line.0.saying;
          who = line_who said.0.thread.items line.0.number;
          is_comment = is_comment line.0.saying;
        },
        ap (λ l. line_event spot l (slice_get text.said.items number)) line.1 ∙ ap (line_event spot (Some line.0)) said.1,
      )

  act_said : (own : Doing) (at number : ℕ) → behind_own spot own at (slice_get spot.left at) (act_of text.driver spot own at number) ≡ Some new
      → (event : EventSaid)
      × (act_event own at (slice_get spot.world.parts at) (act_of text.driver spot own at number) ≡ Some event)
  act_said own at number is =
      let its = act_there spot own at (slice_get spot.left at) (act_of text.driver spot own at number) new is in
      let part = part_there text.driver own number (slice_get text.driver.devices.items at) (slice_get spot.world.parts at) its.0 its.1 in (
        record { text = local_text part.0 at its.0; who = who_text own at; is_comment = false },
        ap (λ p. act_event own at p (act_of text.driver spot own at number)) part.1 ∙ ap (act_event own at (Some part.0)) its.1,
      )

  said_by : (own : Doing) (at number : ℕ) → behind_choice text.driver spot own at number ≡ Some new
      → (event : EventSaid) × (event_by text spot own at number ≡ Some event)
  said_by doing.Line at number is = line_said at number is
  said_by own at number is = act_said own at number is

  said : (choice : Choice) → next_in text.driver spot choice ≡ Some new → (event : EventSaid) × (event_of text spot choice ≡ Some event)
  said choice is =
      said_by choice.doing choice.at choice.number
      (taken (is_open_to text.driver spot choice) (behind_choice text.driver spot choice.doing choice.at choice.number) new is)

-- ---- Its line

line_of : (comment : Bool) (width : ℕ) → EventSaid → List ℕ
line_of true width event = codes "# " ++ event.who ++ codes ": " ++ event.text
line_of false width event = event.text ++ replicate (width - length event.text) 32 ++ codes " # " ++ event.who

line_by : (comment : Bool) (width : ℕ) (event : EventSaid) → IsLineBy comment event (line_of comment width event)
unfolding line_of
line_by true width event = refl
line_by false width event = (width - length event.text, refl)

line_whole : (comment : Bool) (width : ℕ) (event : EventSaid) → IsOneLine event.who → IsOneLine event.text
    → IsOneLine (line_of comment width event)
unfolding line_of
line_whole true width event who text =
    both (codes "# " ++ event.who ++ codes ": ") event.text (both (codes "# " ++ event.who) (codes ": ") (both (codes "# ") event.who refl who) refl) text
line_whole false width event who text =
    let blanks : List ℕ = replicate (width - length event.text) 32 in
    both (event.text ++ blanks ++ codes " # ") event.who
    (both (event.text ++ blanks) (codes " # ") (both event.text blanks text (blanks_one (width - length event.text))) refl) who

ended_by : (comment : Bool) (width : ℕ) (event : EventSaid)
    → (if comment then comment_line event else doing_line width event) ≡ ended (line_of comment width event)
unfolding line_of
ended_by true width event = refl
ended_by false width event = refl

-- ---- All events, one after another

run_none : (driver : Driver) (choices : List Choice) → run_from (rules_of driver) None choices ≡ None
run_none driver [] = refl
run_none driver (choice ∷ choices) = run_none driver choices

pub record Walked (text : Text) (width : ℕ) (spot : Spot) (choices : List Choice) (last : Spot) : Type 0 where
  pub lines : List (List ℕ)
  pub told : AreTold text spot choices lines last
  pub says : flat_map (event_line width) (events_from text spot choices) ≡ flat_map ended lines
  pub leads : last_spot text spot choices ≡ last
  pub many : length lines ≡ length choices

none_left : (text : Text) (width : ℕ) (spot last : Spot) → spot ≡ last → Walked text width spot [] last
unfolding events_from last_spot
none_left text width spot last is = record { lines = []; told = is; says = refl; leads = is; many = refl }

one_more : (text : Text) (width : ℕ) (spot next last : Spot) (choice : Choice) (choices : List Choice) (event : EventSaid)
    → event_of text spot choice ≡ Some event → IsOneLine event.who × IsOneLine event.text → next_in text.driver spot choice ≡ Some next
    → Walked text width next choices last → Walked text width spot (choice ∷ choices) last
unfolding events_from last_spot
one_more text width spot next last choice choices event is one leads rest = record {
  lines = line_of event.is_comment width event ∷ rest.lines;
  told = (
    record { event = event; is = is; told = line_by event.is_comment width event; whole = line_whole event.is_comment width event one.0 one.1 },
    (next, leads, rest.told),
  );
  says = ap (λ it. flat_map (event_line width) (with_event it (next_in text.driver spot choice) (λ next. events_from text next choices))) is
      ∙ ap (λ it. flat_map (event_line width) (with_event (Some event) it (λ next. events_from text next choices))) leads
      ∙ ap (λ l. l ++ flat_map (event_line width) (events_from text next choices)) (ended_by event.is_comment width event)
      ∙ ap (λ l. ended (line_of event.is_comment width event) ++ l) rest.says;
  leads = ap (λ it. spot_behind spot it (next_in text.driver spot choice) (λ next. last_spot text next choices)) is
      ∙ ap (λ it. spot_behind spot (Some event) it (λ next. last_spot text next choices)) leads ∙ rest.leads;
  many = ap suc rest.many;
}

pub walked : (text : Text) → IsFit text → (width : ℕ) (choices : List Choice) (spot last : Spot)
    → run_from (rules_of text.driver) (Some spot) choices ≡ Some last → Walked text width spot choices last
walked text fit width [] spot last is = none_left text width spot last (same_Some spot last is)
walked text fit width (choice ∷ choices) spot last is =
    by_next (next_in text.driver spot choice) refl is (walked text fit width choices)
  where
    by_next : (led : Option Spot) → next_in text.driver spot choice ≡ led → run_from (rules_of text.driver) led choices ≡ Some last
        → ((next end : Spot) → run_from (rules_of text.driver) (Some next) choices ≡ Some end → Walked text width next choices end)
        → Walked text width spot (choice ∷ choices) last
    by_next None leads is rest = absurd (cc (sym (run_none text.driver choices) ∙ is))
    by_next (Some next) leads is rest =
        let event = said text fit.many spot next choice leads in
        let one = event_whole text spot choice.doing choice.at choice.number event.0 fit.whole event.1 in
        one_more text width spot next last choice choices event.0 event.1 one leads (rest next last is)

-- ---- The report

witness_of : (text : Text) (choices : List Choice) (out : List ℕ) → IsFit text
    → IsLeak text.driver choices → ((other : List Choice) → IsLeak text.driver other → length choices ≤ length other)
    → out ≡ codes "unsafe in " ++ events_count (length choices) ++ codes ": " ++ finding_text (first_wrong (behind text choices).world)
    ++ 10 ∷ (front_text text ++ flat_map (event_line (width_from 0 (events_by text choices))) (events_by text choices))
    → HasWitness text out
witness_of text choices out fit leak shortest is =
    let found = finding leak.0.world leak.2 in
    let walk = walked text fit (width_from 0 (events_by text choices)) choices (start_of text.driver) leak.0 leak.1 in
    let wrong : first_wrong (behind text choices).world ≡ Some found.0 = ap (λ (spot : Spot). first_wrong spot.world) walk.leads ∙ found.1 in
    record {
      choices = choices;
      shortest = shortest;
      lines = walk.lines;
      last = leak.0;
      told = walk.told;
      found = found.0;
      wrong = found.1;
      report = is
          ∙ ap (λ n. codes "unsafe in " ++ events_count n ++ codes ": " ++ finding_text (first_wrong (behind text choices).world)
          ++ 10 ∷ (front_text text ++ flat_map (event_line (width_from 0 (events_by text choices))) (events_by text choices))) (sym walk.many)
          ∙ ap (λ it. codes "unsafe in " ++ events_count (length walk.lines) ++ codes ": " ++ finding_text it
          ++ 10 ∷ (front_text text ++ flat_map (event_line (width_from 0 (events_by text choices))) (events_by text choices))) wrong
          ∙ ap (λ l. codes "unsafe in " ++ events_count (length walk.lines) ++ codes ": " ++ wrong_text found.0
          ++ 10 ∷ (front_text text ++ l)) walk.says;
    }

-- no other verdict is told as unsafe
unsafe_alone : (tried : Bool) → ruling.Unsafe ≡ (if tried then ruling.Safe else ruling.Untried) → ⊥
unsafe_alone true is = cc is
unsafe_alone false is = cc is

witness_by : (text : Text) (most : ℕ) (brief : Bool) (it : Verdict) (out : List ℕ) → IsFit text
    → IsJudged text.driver most it → IsAsked false it → ruling.Unsafe ≡ ruling_of it → out ≡ report_text text brief it → HasWitness text out
witness_by text most brief (verdict.Unsafe witness) out fit holds asked rules is = witness_of text witness.items out fit holds.0 holds.1 is
witness_by text most brief (verdict.Safe moments looked) out fit holds asked rules is = absurd (unsafe_alone (is_tried looked.items) rules)
witness_by text most brief (verdict.SafeApart moments looked) out fit holds asked rules is = absurd (unsafe_alone (is_tried looked.items) rules)
witness_by text most brief (verdict.Findings found moments cut) out fit holds asked rules is = absurd asked
witness_by text most brief (verdict.Stuck witness moments) out fit holds asked rules is = absurd (cc rules)
witness_by text most brief (verdict.CutOff moments events) out fit holds asked rules is = absurd (cc rules)

told_unsafe : (text : Text) (wanted : Wanted) (out : List ℕ) → IsFit text → wanted.all ≡ false
    → IsToldBy text wanted ruling.Unsafe out → HasWitness text out
told_unsafe text wanted out fit one told =
    witness_by text wanted.most wanted.lines_alone told.verdict out fit told.holds (subst (λ b. IsAsked b told.verdict) one told.asked) told.ruling told.report

-- ---- The first line behind which something is wrong

number_led : Result Spot Halt → ℕ
number_led (Err (halt.Leaks number found)) = number
number_led led = 0

wrong_led : Wrong → Result Spot Halt → Wrong
wrong_led other (Err (halt.Leaks number found)) = found
wrong_led other led = other

same_leak : (one other : ℕ) (first second : Wrong)
    → ◌≡◌ {A = Result Spot Halt} (Err (halt.Leaks one first)) (Err (halt.Leaks other second)) → (one ≡ other) × (first ≡ second)
unfolding number_led wrong_led
same_leak one other first second is = (ap number_led is, ap (wrong_led first) is)

module _ (driver : Driver) (number : ℕ) (found : Wrong) where
  at_spot : (place : ℕ) (before spot : Spot) → behind_first driver place ≡ Ok before → next_in driver before (line_choice place) ≡ Some spot
      → (it : Option Wrong) → first_wrong spot.world ≡ it
      → unless_wrong (number_of (slice_get driver.lines.items place)) spot it ≡ Err (halt.Leaks number found)
      → HasLeak driver (suc place) (unsafe_at number found)
  at_spot place before spot first leads None wrong is = absurd (cc is)
  at_spot place before spot first leads (Some it) wrong is =
      let line = line_there before place (slice_get driver.lines.items place) spot
      (taken (is_open_to driver before (line_choice place)) (behind_line before place (slice_get driver.lines.items place)) spot leads) in
      let same = same_leak (number_of (slice_get driver.lines.items place)) number it found is in
      record {
        place = place;
        among = omega arith;
        line = line.0;
        stands = line.1;
        before = before;
        first = first;
        spot = spot;
        leads = leads;
        found = found;
        wrong = wrong ∙ ap Some same.1;
        report = ap (λ n. unsafe_at n found) (sym same.0 ∙ ap number_of line.1);
      }

  at_next : (place : ℕ) (before : Spot) → behind_first driver place ≡ Ok before → (led : Option Spot) → next_in driver before (line_choice place) ≡ led
      → by_next place (number_of (slice_get driver.lines.items place)) led ≡ Err (halt.Leaks number found)
      → HasLeak driver (suc place) (unsafe_at number found)
  at_next place before first None leads is = absurd (cc is)
  at_next place before first (Some spot) leads is = at_spot place before spot first leads (first_wrong spot.world) refl is

  unless_left : (place : ℕ) (before : Spot) → behind_first driver place ≡ Ok before → (left : Bool)
      → ◌≡◌ {A = Result Spot Halt}
      (if left then Ok before
      else by_next place (number_of (slice_get driver.lines.items place)) (next_in driver before (line_choice place)))
      (Err (halt.Leaks number found))
      → HasLeak driver (suc place) (unsafe_at number found)
  unless_left place before first true is = absurd (cc is)
  unless_left place before first false is = at_next place before first (next_in driver before (line_choice place)) refl is

  later : (place : ℕ) → HasLeak driver place (unsafe_at number found) → HasLeak driver (suc place) (unsafe_at number found)
  later place h = record {
    place = h.place;
    among = omega (arith, h.among);
    line = h.line;
    stands = h.stands;
    before = h.before;
    first = h.first;
    spot = h.spot;
    leads = h.leads;
    found = h.found;
    wrong = h.wrong;
    report = h.report;
  }

  at_line : (place : ℕ) (led : Result Spot Halt) → behind_first driver place ≡ led → (led >>= behind_next driver place) ≡ Err (halt.Leaks number found)
      → (behind_first driver place ≡ Err (halt.Leaks number found) → HasLeak driver place (unsafe_at number found))
      → HasLeak driver (suc place) (unsafe_at number found)
  at_line place (Ok before) first is rest = unless_left place before first (is_left_out before place (slice_get driver.lines.items place)) is
  at_line place (Err stop) first is rest = later place (rest (first ∙ is))

  pub leak_told : (count : ℕ) → behind_first driver count ≡ Err (halt.Leaks number found) → HasLeak driver count (unsafe_at number found)
  unfolding behind_first
  leak_told zero is = absurd (cc is)
  leak_told (suc place) is = at_line place (behind_first driver place) refl is (leak_told place)

-- ---- The laws

as_many : (from : DriverRead) (read : Read) (text : Text) → IsRead from read → IsText read text
    → length text.said.items ≡ length text.driver.lines.items
as_many from read text reads stands =
    let said : length text.said.items ≡ length from.reading.lines =
    ap (λ (said : Vec Said Global). length said.items) stands.said
    ∙ sym (length-map read.said.items told_seen) ∙ ap length reads.said ∙ length-map from.reading.lines told_of in
    let lines : length text.driver.lines.items ≡ length from.reading.lines =
    ap (λ (lines : Vec Line Global). length lines.items) stands.driver.lines
    ∙ sym (length-map read.opening.lines.items done_seen) ∙ ap length reads.opening.lines ∙ length-map from.reading.lines done_of in
    said ∙ sym lines

pub fits : (text : List ℕ) (from : DriverRead) (read : Read) (behind : Text) → driver_of text ≡ Ok from → IsRead from read → IsText read behind → IsFit behind
fits text from read behind is reads stands = record {
  many = as_many from read behind reads stands;
  whole = subst (λ (said : Vec Said Global). AreWhole said.items) (sym stands.said) (are_whole text from read is reads);
}

module _ (text : List ℕ) (from : DriverRead) (read : Read) (wanted : Wanted) (wrongs out : List ℕ) (is : driver_of text ≡ Ok from) (reads : IsRead from read)
    (one : wanted.all ≡ false) where
  shown_at : (led : Result Spot Halt) (to : Begun) → behind_first read.opening read.before ≡ led → StandsAt read led to wrongs
      → IsTold to wanted wrongs (Some ruling.Unsafe) out
      → HasLeak read.opening read.before out ⊎ ((behind : Text) × IsText read behind × HasWitness behind out)
  shown_at (Ok spot) (begun.Stands behind) led stands told =
      inr (behind, stands.0, told_unsafe behind wanted out (fits text from read behind is reads stands.0) one told)
  shown_at (Ok spot) (begun.Leaks number found) led stands told = absurd stands
  shown_at (Ok spot) begun.Faulted led stands told = absurd stands
  shown_at (Err (halt.Refused place)) begun.Faulted led stands told = absurd (cc told.0)
  shown_at (Err (halt.Refused place)) (begun.Leaks number found) led stands told = absurd stands
  shown_at (Err (halt.Refused place)) (begun.Stands text) led stands told = absurd stands
  shown_at (Err (halt.Leaks number found)) to led stands told =
      let leaks = subst (λ (it : Begun). IsTold it wanted wrongs (Some ruling.Unsafe) out) stands.0 told in
      inl (subst (HasLeak read.opening read.before) (sym leaks.1) (leak_told read.opening number found read.before led))

  shown_by : (is_race : Bool) (to : Begun) → StandsBy read is_race to wrongs → IsTold to wanted wrongs (Some ruling.Unsafe) out
      → HasLeak read.opening read.before out ⊎ ((behind : Text) × IsText read behind × HasWitness behind out)
  shown_by true to stands told = shown_at (behind_first read.opening read.before) to refl stands told
  shown_by false to stands told =
      let faulted = subst (λ (it : Begun). IsTold it wanted wrongs (Some ruling.Unsafe) out) stands.0 told in
      absurd (cc faulted.0)

shown : (text : List ℕ) (led : Result DriverRead (List ℕ)) (wanted : Wanted) (to : Begun) (wrongs out : List ℕ)
    → driver_of text ≡ led → ReadsDriver led to wrongs → wanted.all ≡ false → IsTold to wanted wrongs (Some ruling.Unsafe) out
    → HasRead text (λ (read : Read). HasLeak read.opening read.before out ⊎ ((behind : Text) × IsText read behind × HasWitness behind out))
shown text (Err said) wanted to wrongs out is reads one told =
    let faulted = subst (λ (it : Begun). IsTold it wanted wrongs (Some ruling.Unsafe) out) reads.0 told in
    absurd (cc faulted.0)
shown text (Ok from) wanted to wrongs out is reads one told =
    (from, reads.0, is, reads.1, shown_by text from reads.0 wanted wrongs out is reads.1 one reads.0.is_race to reads.2 told)

pub witnesses_are_told : WitnessesAreTold
witnesses_are_told text wanted out one judged = shown text (driver_of text) wanted judged.to judged.wrongs out refl judged.reads one judged.told

-- ---- Line by line

ran_unsafe : (read : Read) (count : ℕ) (led : Result Spot Halt) (out : List ℕ) → behind_first read.opening count ≡ led
    → Some ruling.Unsafe ≡ (ran_to read led).said → out ≡ (ran_to read led).text → HasLeak read.opening count out
ran_unsafe read count (Ok spot) out led says is = absurd (cc says)
ran_unsafe read count (Err (halt.Refused place)) out led says is = absurd (cc says)
ran_unsafe read count (Err (halt.Leaks number found)) out led says is =
    subst (HasLeak read.opening count) (sym is) (leak_told read.opening number found count led)

ran_shown : (text : List ℕ) (led : Result DriverRead (List ℕ)) (found : Option Read) (wrongs out : List ℕ) → driver_of text ≡ led
    → ReadsText led found wrongs → IsRanBy found wrongs (Some ruling.Unsafe) out
    → HasRead text (λ (read : Read). HasLeak read.opening (length read.opening.lines.items) out)
ran_shown text led None wrongs out is reads ran = absurd (cc ran.0)
ran_shown text (Err said) (Some read) wrongs out is reads ran = absurd reads
ran_shown text (Ok from) (Some read) wrongs out is reads ran =
    let count = length read.opening.lines.items in
    (from, read, is, reads.0, ran_unsafe read count (behind_first read.opening count) out refl ran.0 ran.1)

pub leaks_are_told : LeaksAreTold
leaks_are_told text out run = ran_shown text (driver_of text) run.read run.wrongs out refl run.reads run.ran
