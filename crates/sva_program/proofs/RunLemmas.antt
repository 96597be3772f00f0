-- How a run ends, from what its command says, and from a command line that couldn't be read for want of memory.
use Rattle.std.proofs.Common.{◌≡◌, ◌≤◌, ◌⊎◌, arith, inl, inr, sym, ◌∙◌, subst, append-nil, refl, ℕ, Bool, List}
use Rattle.std.proofs.Common.{[], ◌∷◌, Option, Some, None, IfSome, Result, Ok, Err, OnOk}
use Rattle.std.proofs.Common.{IfOk, true, false}
use Rattle.std.specs.Io.KnownBytes.{Appends, Keeps}
use Rattle.clap.specs.Words.{HasKind, IsAmong, Kinds, Text, kind_of}
use Rattle.clap.specs.declared.error.Error.{Error}
use Rattle.clap.specs.declared.error.kind.ErrorKind.{ErrorKind}
use Rattle.clap.specs.declared.error.kind.ErrorKind.TheVariants.{DisplayHelp, DisplayVersion, OutOfMemory}
use Rattle.sva_streams.specs.Streams.{AppendsPrefix, Stream, Writes}
use Rattle.sva_streams.specs.declared.reading.TheConstants.{MOST_TURNS}
use Rattle.sva_streams.specs.declared.streams.DriveFault.{DriveFault}
use Rattle.sva_streams.specs.declared.streams.DriveFault.TheVariants.{Read, Write, Memory}
use Rattle.sva_streams.specs.declared.streams.Outcome.{Outcome}
use Rattle.sva_streams.specs.declared.streams.Outcome.TheVariants.{Done, Faulted}
use Rattle.sva_reports.specs.Report.{check_of, report_of}
use Rattle.sva_scenario.proofs.StormReportLemmas.{lacking_of}
use Rattle.sva_script_reading.specs.Said.{Prints}
use Rattle.sva_script_reading.specs.Said.{Said}
use Rattle.sva_script_reports.specs.Scripts.{plain_of, test_of}
use Rattle.sva_script_reports.specs.Shows.{show_of}
use Rattle.sva_script_reports.specs.Whys.{whys_of}
use Rattle.sva_script_reports.specs.Traces.{trace_of}
use Rattle.sva_why.specs.Why.{why_of}
use Rattle.sva_program.specs.Run.{HasCause, Makes, Reports, Rules, RulesIf, RulesOf, RunsTo, WhereKnown, explored_of, is_strict, ran_of, ruled_of, status_of, status_of_untried}
use Rattle.sva_program.specs.Run.{question_of, style_of, wanted_of_driver}
use Rattle.sva_command.specs.Command.{Asks, AsksStrict}
use Rattle.sva_command.specs.declared.command.Asked.{Asked}
use Rattle.sva_command.specs.declared.command.Beside.{Beside}
use Rattle.sva_variants.specs.declared.asking.Question.{Question}
use Rattle.sva_driver_reports.specs.declared.reports.Ruling.{Ruling}
use Rattle.sva_driver_reports.specs.declared.reports.Ruling.TheVariants.{Safe, Untried, Right, Unsafe, UnsafeSoFar, Stuck, CutOff}
use Rattle.sva_driver_reports.specs.declared.wanted.Wanted as driver
use Rattle.sva_command.specs.declared.command.Asked.TheVariants.{Chart, Check, Explore, Judge, Plain, Replay, Show, Storm, Test, Trace, Why}
use Rattle.sva_program.specs.declared.run.Ending.{Ending}
use Rattle.sva_race_reports.specs.declared.judging.Judged.{Judged}
use Rattle.sva_race_reports.specs.declared.judging.Judged.TheVariants.{Holds, Fails, Unknown}

keeps : (old new : Option (List ℕ)) → new ≡ old → Keeps old new
keeps None new e = tt
keeps (Some xs) (Some ys) e = cc e
keeps (Some xs) None e = absurd (cc e)

-- what a command says of what it wrote, put together
pub reported : {A : Type 0} (makes : List ℕ → Type 0) (input old new : Option (List ℕ)) (r : Result A DriveFault) → IfSome input makes
    → (r ≡ Err Read → new ≡ old)
    → WhereKnown makes input old new r
reported makes input old new (Ok ended) made read = made
reported makes input old new (Err Read) made read = keeps old new (read refl)
reported makes input old new (Err Write) made read = made
reported makes input old new (Err Memory) made read = made

-- the text and the outcome of a command, where its input is known
pub made : (A : List ℕ → Type 0) (P : Outcome → List ℕ → Type 0) (input : Option (List ℕ)) (r : Result Outcome DriveFault) → IfSome input A
    → IfOk r (λ outcome. IfSome input (P outcome))
    → IfSome input (λ text. A text × IfOk r (λ outcome. P outcome text))
made A P None r text outcome = tt
made A P (Some input) (Ok ended) text outcome = (text, outcome)
made A P (Some input) (Err fault) text outcome = (text, tt)

pub run_reported : (said : List ℕ → List ℕ) (ends : List ℕ → Outcome) (input old new : Option (List ℕ)) (r : Result Outcome DriveFault)
    → IfSome input (λ text. Writes old new (said text) r) → IfOk r (λ outcome. IfSome input (λ text. outcome ≡ ends text))
    → (r ≡ Err Read → new ≡ old)
    → WhereKnown (λ text. Makes old new (said text) (ends text) r) input old new r
run_reported said ends input old new r text outcome read =
    reported (λ t. Makes old new (said t) (ends t) r) input old new r
    (made (λ t. Writes old new (said t) r) (λ ended t. ended ≡ ends t) input r text outcome) read

pub printed : (says : List ℕ → Said) (input old new : Option (List ℕ)) (r : Result Outcome DriveFault)
    → IfSome input (λ text. Prints (says text) old new r) → (r ≡ Err Read → new ≡ old)
    → WhereKnown (λ text. Prints (says text) old new r) input old new r
printed says input old new r made read = reported (λ text. Prints (says text) old new r) input old new r made read

-- and of what failed
pub caused : {A R W : Type 0} (reader : Stream R) (writer : Stream W) (r : Result A DriveFault)
    → OnOk r ((reader.failures ≡ 0) × (writer.failures ≡ 0))
    → (r ≡ Err Read → (reader.failures ≡ 1) ⊎ ((reader.failures ≡ 0) × (reader.calls ≡ MOST_TURNS)))
    → (r ≡ Err Write → (reader.failures ≡ 0) × (writer.failures ≡ 1))
    → (r ≡ Err Memory → (reader.failures ≡ 0) × (writer.failures ≡ 0))
    → HasCause reader writer r
caused reader writer (Ok ended) end read write memory = end
caused reader writer (Err Read) end read write memory = read refl
caused reader writer (Err Write) end read write memory = write refl
caused reader writer (Err Memory) end read write memory = memory refl

-- how a run ends has the cause of what came to it
pub caused_run : {R W : Type 0} (reader : Stream R) (writer : Stream W) (found : Result Outcome DriveFault) (ended : Result Ending DriveFault)
    → ended ≡ ran_of found → HasCause reader writer found → HasCause reader writer ended
caused_run reader writer found ended is h = subst (HasCause reader writer) (sym is) (go found h)
  where
    go : (found : Result Outcome DriveFault) → HasCause reader writer found → HasCause reader writer (ran_of found)
    go (Ok outcome) h = h
    go (Err Read) h = h
    go (Err Write) h = h
    go (Err Memory) h = h

pub caused_exploring : {R W : Type 0} (reader : Stream R) (writer : Stream W) (found : Result (Option Judged) DriveFault)
    (ended : Result Ending DriveFault) → ended ≡ explored_of found → HasCause reader writer found → HasCause reader writer ended
caused_exploring reader writer found ended is h = subst (HasCause reader writer) (sym is) (go found h)
  where
    go : (found : Result (Option Judged) DriveFault) → HasCause reader writer found → HasCause reader writer (explored_of found)
    go (Ok None) h = h
    go (Ok (Some judged)) h = h
    go (Err Read) h = h
    go (Err Write) h = h
    go (Err Memory) h = h

pub caused_ruling : {R W : Type 0} (reader : Stream R) (writer : Stream W) (found : Result (Option Ruling) DriveFault)
    (ended : Result Ending DriveFault) → ended ≡ ruled_of found → HasCause reader writer found → HasCause reader writer ended
caused_ruling reader writer found ended is h = subst (HasCause reader writer) (sym is) (go found h)
  where
    go : (found : Result (Option Ruling) DriveFault) → HasCause reader writer found → HasCause reader writer (ruled_of found)
    go (Ok None) h = h
    go (Ok (Some ruling)) h = h
    go (Err Read) h = h
    go (Err Write) h = h
    go (Err Memory) h = h

-- ---- The status

run_status : (strict : Bool) (found : Result Outcome DriveFault) (ended : Result Ending DriveFault) → ended ≡ ran_of found → status_of strict ended ≤ 2
run_status strict found ended is = subst (λ e. status_of strict e ≤ 2) (sym is) (go found)
  where
    go : (found : Result Outcome DriveFault) → status_of strict (ran_of found) ≤ 2
    go (Ok Done) = omega arith
    go (Ok Faulted) = omega arith
    go (Err fault) = omega arith

-- of a command on steps
pub steps_status : (asked : Asked) (input old new : Option (List ℕ)) (ended : Result Ending DriveFault)
    → ((most : ℕ) (whys few_ends : Bool) → asked ≡ Explore most whys few_ends → ⊥)
    → ((run : Bool) (most : ℕ) (strict all : Bool) (beside : Beside) → asked ≡ Judge run most strict all beside → ⊥)
    → Reports asked input old new ended → status_of (is_strict asked) ended ≤ 2
steps_status Replay input old new ended other one h = run_status false h.0 ended h.1
steps_status Check input old new ended other one h = run_status false h.0 ended h.1
steps_status (Storm turns) input old new ended other one h = run_status false h.0 ended h.1
steps_status Plain input old new ended other one h = run_status false h.0 ended h.1
steps_status Test input old new ended other one h = run_status false h.0 ended h.1
steps_status Show input old new ended other one h = run_status false h.0 ended h.1
steps_status Why input old new ended other one h = run_status false h.0 ended h.1
steps_status (Explore most whys few_ends) input old new ended other one h = absurd (other most whys few_ends refl)
steps_status (Judge run most strict all beside) input old new ended other one h = absurd (one run most strict all beside refl)
steps_status (Chart svg) input old new ended other one h = run_status false h.0 ended h.1
steps_status (Trace live whys) input old new ended other one h = run_status false h.0 ended h.1

-- one of the statuses of exploring
abbrev IsOfExploring : ℕ → Type 0
IsOfExploring status = (status ≡ 0) ⊎ (status ≡ 1) ⊎ (status ≡ 4) ⊎ (status ≡ 5)

pub exploring_status : (most : ℕ) (whys few_ends : Bool) (input old new : Option (List ℕ)) (ended : Result Ending DriveFault)
    → Reports (Explore most whys few_ends) input old new ended → IsOfExploring (status_of false ended)
exploring_status most whys few_ends input old new ended h = subst (λ e. IsOfExploring (status_of false e)) (sym h.1) (go h.0)
  where
    go : (found : Result (Option Judged) DriveFault) → IsOfExploring (status_of false (explored_of found))
    go (Ok None) = inr (inl refl)
    go (Ok (Some Holds)) = inl refl
    go (Ok (Some Fails)) = inr (inr (inl refl))
    go (Ok (Some Unknown)) = inr (inr (inr refl))
    go (Err fault) = inr (inl refl)

-- or, with `--strict`, that of a driver in which nothing was ever tried
abbrev pub IsOfJudging : (strict : Bool) → ℕ → Type 0
IsOfJudging strict status = (status ≡ 0) ⊎ (status ≡ 1) ⊎ (status ≡ 4) ⊎ (status ≡ 5) ⊎ ((status ≡ 8) × (strict ≡ true))

untried_status : (strict : Bool) → IsOfJudging strict (status_of_untried strict)
untried_status true = inr (inr (inr (inr (refl, refl))))
untried_status false = inl refl

pub ruling_status : (run : Bool) (most : ℕ) (strict all : Bool) (beside : Beside) (input old new : Option (List ℕ)) (ended : Result Ending DriveFault)
    → Reports (Judge run most strict all beside) input old new ended → IsOfJudging strict (status_of strict ended)
ruling_status run most strict all beside input old new ended h = subst (λ e. IsOfJudging strict (status_of strict e)) (sym h.1) (go h.0)
  where
    go : (found : Result (Option Ruling) DriveFault) → IsOfJudging strict (status_of strict (ruled_of found))
    go (Ok None) = inr (inl refl)
    go (Ok (Some Safe)) = inl refl
    go (Ok (Some Untried)) = untried_status strict
    go (Ok (Some Right)) = inl refl
    go (Ok (Some Unsafe)) = inr (inr (inl refl))
    go (Ok (Some UnsafeSoFar)) = inr (inr (inl refl))
    go (Ok (Some Stuck)) = inr (inr (inl refl))
    go (Ok (Some CutOff)) = inr (inr (inr (inl refl)))
    go (Err fault) = inr (inl refl)

-- where the words ask for it, that is `--strict` of theirs
pub strictly : (run : Bool) (most : ℕ) (strict all : Bool) (beside : Beside) (words : List Text) (status : ℕ) → Asks (Judge run most strict all beside) words
    → IsOfJudging strict status
    → (status ≡ 0) ⊎ (status ≡ 1) ⊎ (status ≡ 4) ⊎ (status ≡ 5) ⊎ ((status ≡ 8) × AsksStrict words)
strictly run most strict all beside words status asks (inl done) = inl done
strictly run most strict all beside words status asks (inr (inl fault)) = inr (inl fault)
strictly run most strict all beside words status asks (inr (inr (inl failed))) = inr (inr (inl failed))
strictly run most strict all beside words status asks (inr (inr (inr (inl unknown)))) = inr (inr (inr (inl unknown)))
strictly true most true all beside words status asks (inr (inr (inr (inr (untried, is))))) = absurd (cc asks.1)
strictly false most true all beside words status asks (inr (inr (inr (inr (untried, is))))) = inr (inr (inr (inr (untried, (most, all, beside, asks)))))
strictly run most false all beside words status asks (inr (inr (inr (inr (untried, is))))) = absurd (cc is)

appends_nothing : (old : Option (List ℕ)) → Appends old old []
appends_nothing None = tt
appends_nothing (Some xs) = sym (append-nil xs)

nothing_of : (old : Option (List ℕ)) (text : List ℕ) → AppendsPrefix old old text
nothing_of old text = ([], text, refl, appends_nothing old)

-- nothing written is a prefix of each report
unwritten_where : (A : Type 0) (makes : List ℕ → Type 0) (input old : Option (List ℕ)) → ((text : List ℕ) → makes text)
    → WhereKnown {A = A} makes input old old (Err Memory)
unwritten_where A makes None old all = tt
unwritten_where A makes (Some text) old all = all text

unprinted : (said : Said) (old : Option (List ℕ)) → Prints said old old (Err Memory)
unprinted said old = (nothing_of old said.text, tt)

-- a command on steps lacks memory
lacking : {makes : Result Outcome DriveFault → Type 0} → makes (Err Memory) → RunsTo makes (Err Memory)
lacking made = (Err Memory, refl, made)

unruled : (run : Bool) (wanted : driver.Wanted) (text : List ℕ) (old : Option (List ℕ)) → Rules run wanted text old old (Err Memory)
unruled true wanted text old = nothing_of old []
unruled false wanted text old = nothing_of old []

unruled_of : (run : Bool) (question : Option Question) (wanted : driver.Wanted) (text : List ℕ) (old : Option (List ℕ)) → RulesOf run question wanted text old old (Err Memory)
unruled_of run (Some question) wanted text old = nothing_of old []
unruled_of run None wanted text old = unruled run wanted text old

unruled_by : (chart run : Bool) (question : Option Question) (wanted : driver.Wanted) (text : List ℕ) (old : Option (List ℕ))
    → RulesIf chart run question wanted text old old (Err Memory)
unruled_by true run question wanted text old = nothing_of old []
unruled_by false run question wanted text old = unruled_of run question wanted text old

unwritten_by : (asked : Asked) (input old : Option (List ℕ)) → Reports asked input old old (Err Memory)
unwritten_by Replay input old = lacking (unwritten_where Outcome _ input old (λ text. (nothing_of old (report_of text), tt)))
unwritten_by Check input old = lacking (unwritten_where Outcome _ input old (λ text. (nothing_of old (check_of text), tt)))
unwritten_by (Storm turns) input old = lacking (unwritten_where Outcome _ input old (λ text. lacking_of text turns old))
unwritten_by Plain input old = lacking (unwritten_where Outcome _ input old (λ text. unprinted (plain_of text) old))
unwritten_by Test input old = lacking (unwritten_where Outcome _ input old (λ text. unprinted (test_of why_of text) old))
unwritten_by Show input old = lacking (unwritten_where Outcome _ input old (λ text. unprinted (show_of text) old))
unwritten_by Why input old = lacking (unwritten_where Outcome _ input old (λ text. unprinted (whys_of why_of text) old))
unwritten_by (Chart svg) input old =
    lacking (unwritten_where Outcome _ input old (λ text. (show_of text, (refl, λ wrong. refl), unprinted (show_of text) old)))
unwritten_by (Explore most whys few_ends) input old = (Err Memory, refl, unwritten_where (Option Judged) _ input old (λ text. nothing_of old []))
unwritten_by (Judge run most strict all beside) input old =
    (Err Memory, refl, unwritten_where (Option Ruling) _ input old (λ text. unruled_by beside.chart run (question_of beside) (wanted_of_driver most all) text old))
unwritten_by (Trace live whys) None old = lacking tt
unwritten_by (Trace live whys) (Some text) old = lacking (unprinted (trace_of why_of (style_of live whys) text) old)

pub unwritten : (asked : Asked) (input old new : Option (List ℕ)) → new ≡ old → Reports asked input old new (Err Memory)
unwritten asked input old new e = subst (λ n. Reports asked input old n (Err Memory)) (sym e) (unwritten_by asked input old)

-- where a command line has no fault, an error can only be want of memory
pub only_memory : (kinds : Kinds) (error : Error) → kinds ≡ [] → HasKind kinds error → kind_of error ≡ OutOfMemory
only_memory [] error none (inl memory) = memory
only_memory [] error none (inr among) = absurd among
only_memory (kind ∷ kinds) error none has = absurd (cc none)

-- and an error that isn't want of memory is one of its faults
pub among_faults : (kinds : Kinds) (error : Error) → HasKind kinds error → (kind_of error ≡ OutOfMemory → ⊥) → IsAmong (kind_of error) kinds
among_faults kinds error (inl memory) other = absurd (other memory)
among_faults kinds error (inr among) other = among

-- what shows a text was asked for it
pub asked_text : (kinds : Kinds) (error : Error) → HasKind kinds error → (kind : ErrorKind) → kind ≡ kind_of error → (kind ≡ DisplayHelp)
    ⊎ (kind ≡ DisplayVersion)
    → IsAmong DisplayHelp kinds ⊎ IsAmong DisplayVersion kinds
asked_text kinds error has kind is (inl help) =
    inl (subst (λ kind. IsAmong kind kinds) (sym is ∙ help) (among_faults kinds error has (λ memory. cc (sym help ∙ is ∙ memory))))
asked_text kinds error has kind is (inr version) =
    inr (subst (λ kind. IsAmong kind kinds) (sym is ∙ version) (among_faults kinds error has (λ memory. cc (sym version ∙ is ∙ memory))))
