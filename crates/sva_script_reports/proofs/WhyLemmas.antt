-- What holds the steps of a script back, line by line.
use Rattle.std.proofs.Common.{◌≡◌, ◌∙◌, ap, refl, subst, sym, ℕ, Bool, true, false, List, [], ◌∷◌, ◌++◌, Option, Some, None}
use Rattle.std.specs.Prelude.{Result, Ok, Err}
use Rattle.sva_streams.specs.declared.streams.Outcome.TheVariants.{Faulted}
use Rattle.sva_snapshot.specs.Explaining.{Explaining}
use Rattle.sva_script.specs.declared.faults.Stop.TheVariants as stop
use Rattle.sva_script.specs.declared.faults.Wrong.{Wrong}
use Rattle.sva_script.specs.Lines.{parts_of, script_words}
use Rattle.sva_script.specs.Names.{Known}
use Rattle.sva_script_runs.specs.declared.running.Taken.{Taken}
use Rattle.sva_script_reading.specs.Lines.{LineRead, Plain, plain_text}
use Rattle.sva_script_runs.specs.Runs.{Running, Takes, TakesRead, TellsStep, behind, read_at}
use Rattle.sva_script_reading.specs.Faults.{fault_text}
use Rattle.sva_script_reading.specs.Begins.{Line, fault_of}
use Rattle.sva_script_reading.specs.Said.{IsSaid, Said, faults_text, faulty, well}
use Rattle.sva_script_reports.specs.Lines.{behind_line}
use Rattle.sva_script_reports.specs.Scripts.{At}
use Rattle.sva_script_reports.specs.Whys.{StepsWhy, WordsWhy, case_of, case_text, cases_text, why_from, why_line, why_read}
use Rattle.sva_script_reports.proofs.StepLemmas.{told_wrong, unchanged}

-- ---- A step's line

-- what was appended of the step that was taken
abbrev pub case_taken : (explained : Explaining) (line : ℕ) → (text : List ℕ) → Running → Option Taken → List ℕ
case_taken explained line text after None = []
case_taken explained line text after (Some taken) = case_text explained line text after.seen taken.step taken.told.reply

taken_by : (explained : Explaining) (before after : Running) (line : ℕ) (words : List (List ℕ)) (text expected out : List ℕ) (rest : List ℕ → At → Said)
    (read : Result LineRead Wrong) (taken : Option Taken) → TakesRead before line (parts_of words) after text expected read (Ok taken)
    → why_read explained before line words out rest read ≡ rest (out ++ case_taken explained line text after taken) (behind_line after)
taken_by explained before after line words text expected out rest (Ok read) taken takes = by_step read.step taken takes.0 takes.1 takes.2
  where
    by_step : (step : Option Plain) (taken : Option Taken) → TellsStep before.seen step taken → after ≡ behind before line (parts_of words).name step
        → text ≡ plain_text step
        → rest (out ++ case_of explained before.seen line step) (record { is_config = false; running = behind before line (parts_of words).name step })
        ≡ rest (out ++ case_taken explained line text after taken) (behind_line after)
    by_step None None tells is same = ap (λ running. rest (out ++ []) (behind_line running)) (sym is)
    by_step (Some plain) (Some found) tells is same =
        λ i. rest
        (out ++ case_text explained line (sym same i) (sym is i).seen (sym tells.is_step i) (sym (ap (λ t. t.reply) tells.told) i))
        (behind_line (sym is i))
    by_step None (Some found) tells is same = absurd tells
    by_step (Some plain) None tells is same = absurd tells
taken_by explained before after line words text expected out rest (Err wrong) taken takes = absurd takes.0

-- it was taken
pub why_taken : (explained : Explaining) (before after : Running) (line : ℕ) (words given : List (List ℕ)) (text expected old new : List ℕ)
    (taken : Option Taken) → given ≡ words
    → Takes before line (parts_of given) after text expected (Ok taken) → new ≡ old ++ case_taken explained line text after taken
    → StepsWhy explained before line words old new after (Ok true)
why_taken explained before after line words given text expected old new taken same takes is =
    subst (λ ws. StepsWhy explained before line ws old new after (Ok true)) same (
      case_taken explained line text after taken,
      is,
      λ out rest. taken_by explained before after line given text expected out rest (read_at before (parts_of given)) taken takes,
    )

wrong_by : (explained : Explaining) (before after : Running) (line : ℕ) (words : List (List ℕ)) (text expected out : List ℕ) (rest : List ℕ → At → Said)
    (read : Result LineRead Wrong) (wrong : Wrong) → TakesRead before line (parts_of words) after text expected read (Err (stop.Wrong wrong))
    → why_read explained before line words out rest read ≡ faulty (fault_of before.known line words wrong ∷ [])
wrong_by explained before after line words text expected out rest (Ok read) wrong takes = absurd takes
wrong_by explained before after line words text expected out rest (Err found) wrong takes = ap
    (λ w. faulty (fault_of before.known line words w ∷ [])) (sym takes.0)

-- it is wrong
pub why_failed : (explained : Explaining) (before after : Running) (line : ℕ) (words given : List (List ℕ)) (text expected old cleared new : List ℕ)
    (known : Known) (wrong : Wrong)
    → given ≡ words → Takes before line (parts_of given) after text expected (Err (stop.Wrong wrong)) → cleared ≡ [] → known ≡ after.known
    → new ≡ cleared ++ fault_text (fault_of known line given wrong)
    → StepsWhy explained before line words old new after (Ok false)
why_failed explained before after line words given text expected old cleared new known wrong same takes none is told =
    subst (λ ws. StepsWhy explained before line ws old new after (Ok false)) same (
      faulty (fault_of before.known line given wrong ∷ []),
      (
        refl,
        told_wrong before after line given known wrong cleared new (unchanged before after line (parts_of given) text expected wrong takes) is told
            ∙ ap (λ l. l ++ faults_text (fault_of before.known line given wrong ∷ [])) none,
      ),
      λ out rest. wrong_by explained before after line given text expected out rest (read_at before (parts_of given)) wrong takes,
    )

-- ---- All lines

follows : (explained : Explaining) (before : At) (out : List ℕ) (all left : List Line) (line : Line) (words : List (List ℕ)) → all ≡ line ∷ left
    → words ≡ script_words line.1
    → why_from explained out before all ≡ why_line explained before line.0 out (λ text next. why_from explained text next left) words
unfolding why_from
follows explained before out all left line words is same =
    ap (why_from explained out before) is ∙ ap (why_line explained before line.0 out (λ text next. why_from explained text next left)) (sym same)

pub why_next : (explained : Explaining) (whole : Said) (before after : At) (line : Line) (words : List (List ℕ)) (out new : List ℕ)
    (all left : List Line) (went : Bool)
    → whole ≡ why_from explained out before all → all ≡ line ∷ left → words ≡ script_words line.1 → went ≡ true
    → WordsWhy explained before line.0 words out new after (Ok went) → whole ≡ why_from explained new after left
why_next explained whole before after line words out new all left true so_far is same goes says =
    so_far ∙ follows explained before out all left line words is same ∙ says.2 out (λ text next. why_from explained text next left)
    ∙ ap (λ l. why_from explained l after left) (sym says.1)
why_next explained whole before after line words out new all left false so_far is same goes says = absurd (cc goes)

pub why_stopped : (explained : Explaining) (whole : Said) (before after : At) (line : Line) (words : List (List ℕ)) (out new : List ℕ)
    (all left : List Line) (went : Bool)
    → whole ≡ why_from explained out before all → all ≡ line ∷ left → words ≡ script_words line.1 → went ≡ false
    → WordsWhy explained before line.0 words out new after (Ok went) → IsSaid whole new (Ok Faulted)
why_stopped explained whole before after line words out new all left true so_far is same stops says = absurd (cc stops)
why_stopped explained whole before after line words out new all left false so_far is same stops says =
    subst (λ said. IsSaid said new (Ok Faulted))
    (sym (so_far ∙ follows explained before out all left line words is same ∙ says.2 out (λ text next. why_from explained text next left))) says.1

-- none is left
pub why_end : (explained : Explaining) (out : List ℕ) (at : At) (all : List Line) → all ≡ [] → why_from explained out at all ≡ well (cases_text out)
unfolding why_from
why_end explained out at all is = ap (why_from explained out at) is
