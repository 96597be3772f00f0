-- How what is read, judged, played and written fits together.
use Rattle.std.proofs.Common.{◌≡◌, ◌∙◌, ap, sym, subst, ℕ, List, [], Bool, true, false, Option, Some, None, Result, Ok, Err, refl}
use Rattle.std.specs.Prelude.{IfOk, IfSome, IsErrAnd, take}
use Rattle.sva_grammar.specs.declared.faults.LineFault.{LineFault}
use Rattle.sva_grammar.specs.Grammar.{Script, scenario_of}
use Rattle.sva_scenario.specs.Storms.{HasFoundFrames}
use Rattle.sva_streams.specs.declared.streams.DriveFault.{DriveFault}
use Rattle.sva_streams.specs.declared.streams.DriveFault.TheVariants.{Read, Write, Memory}
use Rattle.sva_streams.specs.declared.streams.Outcome.{Outcome}
use Rattle.sva_streams.specs.declared.streams.Outcome.TheVariants.{Faulted}
use Rattle.std.proofs.KnownBytes.{Appends-nil}
use Rattle.sva_step.specs.declared.refusals.Refusal.TheVariants.{BadConfig}
use Rattle.sva_step.specs.Refusals.{refusal_text}
use Rattle.sva_grammar.specs.Faults.{line_fault_text}
use Rattle.sva_reports.specs.Report.{HandedOut}
use Rattle.sva_grammar.specs.Configs.{is_fit}
use Rattle.sva_grammar.specs.Replies.{ended}
use Rattle.sva_streams.specs.Streams.{AppendsPrefix, Writes}
use Rattle.sva_scenario.specs.StormReports.{Judged, JudgedBy, JudgedOf, StormEnds, Storms, StormsBy, StormsOf, audit_outcome, audit_text}
use Rattle.sva_reports.proofs.HandedLemmas.{handed_lacking, nothing}
use Rattle.sva_reports.proofs.ScriptLemmas.{front_scenario}
use Rattle.sva_streams.proofs.StreamLemmas.{AppendsPrefix-longer}

-- ---- What was judged

-- nothing is handed out of a text, or there is a fault
judged_by : (fit : Bool) (script : Script) (old new : Option (List ℕ)) (fault : DriveFault)
    → HandedOut (Ok script) old new (Err fault) → JudgedBy fit script old new (Err fault)
judged_by true script old new fault h = h
judged_by false script old new fault h = (AppendsPrefix-longer old new [] (ended (refusal_text BadConfig)) h.0, tt)

pub judged_fault : (read : Result Script LineFault) (old new : Option (List ℕ)) (fault : DriveFault)
    (result : Result (Option Script) DriveFault) → HandedOut read old new (Err fault)
    → IsErrAnd result (λ own. own ≡ fault) → Judged read old new result
judged_fault read old new fault (Ok given) h is = absurd is
judged_fault (Ok script) old new fault (Err own) h is =
    subst (λ (f : DriveFault). JudgedBy (is_fit script.config) script old new (Err f)) (sym is)
    (judged_by (is_fit script.config) script old new fault h)
judged_fault (Err line) old new fault (Err own) h is =
    subst (λ (f : DriveFault). HandedOut (Err line) old new (Err f)) (sym is) h

pub judged_none : (read : Result Script LineFault) (old new : Option (List ℕ)) (given : Option Script) → given ≡ None
    → HandedOut read old new (Ok given) → Judged read old new (Ok None)
judged_none (Ok script) old new given none h = absurd (cc (sym none ∙ h.2))
judged_none (Err line) old new given none h = (h.0, refl)

-- a config within its limits
pub fit_by : (fit : Bool) (script : Script) (seen : Option (List ℕ)) → fit ≡ true → JudgedBy fit script seen seen (Ok (Some script))
fit_by true script seen is = (Appends-nil seen, (λ wrong. absurd (cc wrong)), refl)
fit_by false script seen is = absurd (cc is)

-- one that is out of them
pub unfit_by : (fit : Bool) (script : Script) (old new : Option (List ℕ)) (result : Result (Option Script) DriveFault) → fit ≡ false
    → Writes old new (ended (refusal_text BadConfig)) result → IfOk result (λ o. o ≡ None) → JudgedBy fit script old new result
unfit_by true script old new result is w o = absurd (cc is)
unfit_by false script old new result is w o = (w, o)

-- nothing was written, and there is a fault, which isn't of writing
judged_lacking : (read : Result Script LineFault) (seen : Option (List ℕ)) (fault : DriveFault) → (fault ≡ Write → ⊥)
    → Judged read seen seen (Err fault)
judged_lacking read seen fault other =
    judged_fault read seen seen fault (Err fault) (handed_lacking read seen fault other) refl

-- of a whole text that couldn't be read
pub judged_unread : (known seen : Option (List ℕ)) (fault : DriveFault) (result : Result (Option Script) DriveFault) → (fault ≡ Write → ⊥)
    → IsErrAnd result (λ own. own ≡ fault) → IfSome known (λ input. JudgedOf input seen seen result)
judged_unread None seen fault result other is = tt
judged_unread (Some input) seen fault (Ok given) other is = absurd is
judged_unread (Some input) seen fault (Err own) other is = judged_lacking (scenario_of input) seen own (λ wrong. other (sym is ∙ wrong))

-- ---- Nothing is played

refused_by : (fit : Bool) (script : Script) (turns : ℕ) (old new : Option (List ℕ)) → JudgedBy fit script old new (Ok None)
    → StormsBy fit script turns old new (Ok Faulted)
refused_by true script turns old new h = absurd (cc h.2)
refused_by false script turns old new h = (h.0, refl)

storms_refused : (read : Result Script LineFault) (turns : ℕ) (old new : Option (List ℕ)) → Judged read old new (Ok None)
    → Storms read turns old new (Ok Faulted)
storms_refused (Ok script) turns old new h = refused_by (is_fit script.config) script turns old new h
storms_refused (Err fault) turns old new h = (h.0, refl)

faulted_by : (fit : Bool) (script : Script) (turns : ℕ) (old new : Option (List ℕ)) (fault : DriveFault) → JudgedBy fit script old new (Err fault)
    → StormsBy fit script turns old new (Err fault)
faulted_by true script turns old new Read h = h.0
faulted_by true script turns old new Write h = absurd (h.1 refl)
faulted_by true script turns old new Memory h = h.0
faulted_by false script turns old new fault h = (h.0, tt)

storms_faulted : (read : Result Script LineFault) (turns : ℕ) (old new : Option (List ℕ)) (fault : DriveFault) → Judged read old new (Err fault)
    → Storms read turns old new (Err fault)
storms_faulted (Ok script) turns old new fault h = faulted_by (is_fit script.config) script turns old new fault h
storms_faulted (Err own) turns old new fault h = (h.0, tt)

-- where nothing was handed out, the run ends so
pub refused_known : (known : Option (List ℕ)) (turns : ℕ) (old new : Option (List ℕ)) → IfSome known (λ input. JudgedOf input old new (Ok None))
    → IfSome known (λ input. StormsOf input turns old new (Ok Faulted))
refused_known None turns old new h = tt
refused_known (Some input) turns old new h = storms_refused (scenario_of input) turns old new h

pub faulted_known : (known : Option (List ℕ)) (turns : ℕ) (old new : Option (List ℕ)) (fault : DriveFault) (result : Result Outcome DriveFault)
    → IsErrAnd result (λ own. own ≡ fault) → IfSome known (λ input. JudgedOf input old new (Err fault))
    → IfSome known (λ input. StormsOf input turns old new result)
faulted_known None turns old new fault result is h = tt
faulted_known (Some input) turns old new fault (Ok outcome) is h = absurd is
faulted_known (Some input) turns old new fault (Err own) is h =
    storms_faulted (scenario_of input) turns old new own (subst (λ f. JudgedOf input old new (Err f)) (sym is) h)

-- a storm that wanted memory: nothing was written
lacked_by : (fit : Bool) (script : Script) (turns : ℕ) (seen : Option (List ℕ)) → StormsBy fit script turns seen seen (Err Memory)
lacked_by true script turns seen = nothing seen []
lacked_by false script turns seen = (nothing seen (ended (refusal_text BadConfig)), tt)

storms_lacking : (read : Result Script LineFault) (turns : ℕ) (seen : Option (List ℕ)) → Storms read turns seen seen (Err Memory)
storms_lacking (Ok script) turns seen = lacked_by (is_fit script.config) script turns seen
storms_lacking (Err own) turns seen = (nothing seen (ended (line_fault_text own)), tt)

pub lacking_of : (text : List ℕ) (turns : ℕ) (seen : Option (List ℕ)) → StormsOf text turns seen seen (Err Memory)
lacking_of text turns seen = storms_lacking (scenario_of text) turns seen

-- the same of a whole text, where the fault was passed on
pub lacked_known : (known : Option (List ℕ)) (turns : ℕ) (old new : Option (List ℕ)) (fault : DriveFault) (result : Result Outcome DriveFault)
    → IsErrAnd result (λ own. own ≡ fault) → fault ≡ Memory → new ≡ old → IfSome known (λ input. StormsOf input turns old new result)
lacked_known None turns old new fault result is lacking same = tt
lacked_known (Some input) turns old new fault (Ok outcome) is lacking same = absurd is
lacked_known (Some input) turns old new fault (Err own) is lacking same =
    subst (λ f. StormsOf input turns old new (Err f)) (sym (is ∙ lacking))
    (subst (λ seen. StormsOf input turns old seen (Err Memory)) (sym same) (lacking_of input turns old))

-- ---- A storm was played

-- its audit is told, unless memory lacked
storm_ends : (script : Script) (turns : ℕ) (old new : Option (List ℕ)) (found : Option ℕ) (result : Result Outcome DriveFault)
    → HasFoundFrames script.config script.steps turns found
    → Writes old new (audit_text found) result → IfOk result (λ o. o ≡ audit_outcome found)
    → (result ≡ Err Read → ⊥) → (result ≡ Err Memory → new ≡ old) → StormEnds script turns old new result
storm_ends script turns old new found (Ok outcome) h w o read memory = record { found = found; by_audit = h; said = (w, o) }
storm_ends script turns old new found (Err Read) h w o read memory = absurd (read refl)
storm_ends script turns old new found (Err Write) h w o read memory = record { found = found; by_audit = h; said = (w, tt) }
storm_ends script turns old new found (Err Memory) h w o read memory = subst (λ seen. AppendsPrefix old seen []) (sym (memory refl)) (nothing old [])

played_by : (fit : Bool) (script other : Script) (turns : ℕ) (old mid new : Option (List ℕ)) (found : Option ℕ) (result : Result Outcome DriveFault)
    → JudgedBy fit script old mid (Ok (Some other)) → StormEnds other turns old new result → StormsBy fit script turns old new result
played_by true script other turns old mid new found result h ends =
    let same : other ≡ script = cc h.2 in
    subst (λ (s : Script). StormEnds s turns old new result) same ends
played_by false script other turns old mid new found result h ends = absurd (cc h.1)

storms_played : (read : Result Script LineFault) (script : Script) (turns : ℕ) (old mid new : Option (List ℕ)) (found : Option ℕ)
    (result : Result Outcome DriveFault) → Judged read old mid (Ok (Some script)) → StormEnds script turns old new result
    → Storms read turns old new result
storms_played (Ok own) script turns old mid new found result h ends = played_by (is_fit own.config) own script turns old mid new found result h ends
storms_played (Err fault) script turns old mid new found result h ends = absurd (cc h.1)

pub played_known : (known : Option (List ℕ)) (turns : ℕ) (old mid new : Option (List ℕ)) (handed : Option Script) (script : Script) (found : Option ℕ)
    (result : Result Outcome DriveFault) → handed ≡ Some script → IfSome known (λ input. JudgedOf input old mid (Ok handed)) → mid ≡ old
    → HasFoundFrames script.config script.steps turns found
    → Writes mid new (audit_text found) result → IfOk result (λ o. o ≡ audit_outcome found)
    → (result ≡ Err Read → ⊥) → (result ≡ Err Memory → new ≡ mid)
    → IfSome known (λ input. StormsOf input turns old new result)
played_known None turns old mid new handed script found result some h same is w o read memory = tt
played_known (Some input) turns old mid new handed script found result some h same is w o read memory =
    storms_played (scenario_of input) script turns old mid new found result (subst (λ s. JudgedOf input old mid (Ok s)) some h)
    (storm_ends script turns old new found result is (subst (λ seen. Writes seen new (audit_text found) result) same w) o read
    (λ wrong. memory wrong ∙ same))

-- ---- What was read is what counts

pub kept_judged : (known old new : Option (List ℕ)) (kept text : List ℕ) (result : Result (Option Script) DriveFault)
    → text ≡ kept → IfSome known (λ input. kept ≡ take 1048577 input) → JudgedOf text old new result → IfSome known (λ input. JudgedOf input old new result)
kept_judged None old new kept text result e h j = tt
kept_judged (Some input) old new kept text result e h j =
    subst (λ read. Judged read old new result) (ap scenario_of (e ∙ h) ∙ front_scenario input) j
