-- What is kept behind the lines of a script.
use Rattle.std.proofs.Common.{◌≡◌, ◌∙◌, ap, refl, subst, sym, ℕ, Bool, true, false, List, [], ◌∷◌, ◌++◌, Option}
use Rattle.std.specs.Prelude.{Result, Ok, Err}
use Rattle.sva_lines.specs.Listing.{listing_of}
use Rattle.sva_streams.specs.declared.streams.Outcome.TheVariants.{Faulted}
use Rattle.sva_script.specs.declared.faults.Stop.TheVariants as stop
use Rattle.sva_script.specs.declared.faults.Wrong.{Wrong}
use Rattle.sva_script.specs.Lines.{parts_of, script_words}
use Rattle.sva_script.specs.Names.{Known}
use Rattle.sva_script_runs.specs.declared.running.Taken.{Taken}
use Rattle.sva_script_reading.specs.Lines.{LineRead}
use Rattle.sva_script_runs.specs.Runs.{Running, Takes, TakesRead, read_at}
use Rattle.sva_script_reading.specs.Faults.{fault_text}
use Rattle.sva_script_reports.specs.Lines.{behind_line}
use Rattle.sva_script_reading.specs.Said.{IsSaid, Said, faulty, well}
use Rattle.sva_script_reading.specs.Begins.{Line, fault_of}
use Rattle.sva_script_reports.specs.Scripts.{At}
use Rattle.sva_script_reports.specs.Shows.{StepsShow, WordsShow, show_from, show_line, show_read}
use Rattle.sva_script_reports.proofs.StepLemmas.{told_wrong, unchanged}

-- ---- A step's line

taken_by : (before after : Running) (line : ℕ) (words : List (List ℕ)) (text expected : List ℕ) (rest : At → Said) (read : Result LineRead Wrong)
    (taken : Option Taken) → TakesRead before line (parts_of words) after text expected read (Ok taken)
    → show_read before line words rest read ≡ rest (behind_line after)
taken_by before after line words text expected rest (Ok read) taken takes = ap (λ running. rest (behind_line running)) (sym takes.1)
taken_by before after line words text expected rest (Err wrong) taken takes = absurd takes.0

-- it was taken
pub show_taken : (before after : Running) (line : ℕ) (words given : List (List ℕ)) (text expected old : List ℕ) (taken : Option Taken) → given ≡ words
    → Takes before line (parts_of given) after text expected (Ok taken) → StepsShow before line words old old after (Ok true)
show_taken before after line words given text expected old taken same takes =
    subst (λ ws. StepsShow before line ws old old after (Ok true)) same
    (refl, λ rest. taken_by before after line given text expected rest (read_at before (parts_of given)) taken takes)

wrong_by : (before after : Running) (line : ℕ) (words : List (List ℕ)) (text expected : List ℕ) (rest : At → Said) (read : Result LineRead Wrong)
    (wrong : Wrong) → TakesRead before line (parts_of words) after text expected read (Err (stop.Wrong wrong))
    → show_read before line words rest read ≡ faulty (fault_of before.known line words wrong ∷ [])
wrong_by before after line words text expected rest (Ok read) wrong takes = absurd takes
wrong_by before after line words text expected rest (Err found) wrong takes = ap (λ w. faulty (fault_of before.known line words w ∷ [])) (sym takes.0)

-- it is wrong
pub show_failed : (before after : Running) (line : ℕ) (words given : List (List ℕ)) (text expected old new : List ℕ) (known : Known) (wrong : Wrong)
    → given ≡ words → Takes before line (parts_of given) after text expected (Err (stop.Wrong wrong)) → known ≡ after.known
    → new ≡ old ++ fault_text (fault_of known line given wrong) → StepsShow before line words old new after (Ok false)
show_failed before after line words given text expected old new known wrong same takes is told =
    subst (λ ws. StepsShow before line ws old new after (Ok false)) same (
      faulty (fault_of before.known line given wrong ∷ []),
      refl,
      told_wrong before after line given known wrong old new (unchanged before after line (parts_of given) text expected wrong takes) is told,
      λ rest. wrong_by before after line given text expected rest (read_at before (parts_of given)) wrong takes,
    )

-- ---- All lines

follows : (before : At) (all left : List Line) (line : Line) (words : List (List ℕ)) → all ≡ line ∷ left → words ≡ script_words line.1
    → show_from before all ≡ show_line before line.0 (λ next. show_from next left) words
unfolding show_from
follows before all left line words is same =
    ap (show_from before) is ∙ ap (show_line before line.0 (λ next. show_from next left)) (sym same)

pub show_next : (whole : Said) (before after : At) (line : Line) (words : List (List ℕ)) (old new : List ℕ) (all left : List Line) (went : Bool)
    → whole ≡ show_from before all → all ≡ line ∷ left → words ≡ script_words line.1 → went ≡ true
    → WordsShow before line.0 words old new after (Ok went) → (whole ≡ show_from after left) × (new ≡ old)
show_next whole before after line words old new all left true so_far is same goes shows =
    (so_far ∙ follows before all left line words is same ∙ shows.1 (λ next. show_from next left), shows.0)
show_next whole before after line words old new all left false so_far is same goes shows = absurd (cc goes)

pub show_stopped : (whole : Said) (before after : At) (line : Line) (words : List (List ℕ)) (old new : List ℕ) (all left : List Line) (went : Bool)
    → whole ≡ show_from before all → all ≡ line ∷ left → words ≡ script_words line.1 → went ≡ false → old ≡ []
    → WordsShow before line.0 words old new after (Ok went) → IsSaid whole new (Ok Faulted)
show_stopped whole before after line words old new all left true so_far is same stops none shows = absurd (cc stops)
show_stopped whole before after line words old new all left false so_far is same stops none shows =
    subst (λ said. IsSaid said new (Ok Faulted)) (sym (so_far ∙ follows before all left line words is same ∙ shows.3 (λ next. show_from next left)))
    (sym shows.1, shows.2 ∙ ap (λ l. l ++ shows.0.text) none)

-- none is left
pub show_end : (at : At) (all : List Line) → all ≡ [] → show_from at all ≡ well (listing_of at.running.seen)
unfolding show_from
show_end at all is = ap (show_from at) is
