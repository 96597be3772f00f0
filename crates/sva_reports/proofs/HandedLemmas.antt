-- What is known of a text by the scenario that is handed out of it, or by its line fault.
use Rattle.std.proofs.Common.{◌≡◌, ◌∙◌, ap, sym, subst, ℕ, List, [], Option, Some, None, Result, Ok, Err, refl}
use Rattle.std.proofs.KnownBytes.{Appends-nil}
use Rattle.std.specs.Io.KnownBytes.{Appends}
use Rattle.sva_grammar.specs.declared.faults.LineFault.{LineFault}
use Rattle.sva_grammar.specs.Faults.{line_fault_text}
use Rattle.sva_grammar.specs.Grammar.{Script}
use Rattle.sva_streams.specs.declared.streams.DriveFault.{DriveFault}
use Rattle.sva_streams.specs.declared.streams.DriveFault.TheVariants.{Write}
use Rattle.sva_streams.specs.declared.streams.Outcome.{Outcome}
use Rattle.sva_streams.specs.declared.streams.Outcome.TheVariants.{Faulted}
use Rattle.sva_reports.specs.Report.{HandedOut}
use Rattle.sva_grammar.specs.Replies.{ended}
use Rattle.sva_streams.specs.Streams.{AppendsPrefix}
use Rattle.sva_streams.proofs.StreamLemmas.{AppendsPrefix-longer}

-- ---- What is handed out

-- nothing was written
pub nothing : (seen : Option (List ℕ)) (bytes : List ℕ) → AppendsPrefix seen seen bytes
nothing seen bytes = ([], bytes, refl, Appends-nil seen)

-- where memory lacks, nothing was written
pub handed_lacking : (read : Result Script LineFault) (seen : Option (List ℕ)) (fault : DriveFault)
    → (fault ≡ Write → ⊥) → HandedOut read seen seen (Err fault)
handed_lacking (Ok script) seen fault other = (nothing seen [], (λ wrong. other (cc wrong)), tt)
handed_lacking (Err own) seen fault other = (nothing seen (ended (line_fault_text own)), tt)

-- ---- What it tells of the text

-- a scenario that is handed out is the text's
pub handed_script : (read : Result Script LineFault) (script : Script) (old new : Option (List ℕ)) (given : Option Script)
    → given ≡ Some script → HandedOut read old new (Ok given) → read ≡ Ok script
handed_script (Ok own) script old new given is h =
    let same : own ≡ script = cc (sym h.2 ∙ is) in ap (λ (s : Script). Ok s) same
handed_script (Err line) script old new given is h = absurd (cc (sym h.1 ∙ is))

-- what is said of a line fault is its line
abbrev pub SaysFault : (Result Script LineFault → List ℕ) → Type 0
SaysFault say = (line : LineFault) → say (Err line) ≡ ended (line_fault_text line)

-- where none is handed out, what is said of the text was written
pub handed_none : (say : Result Script LineFault → List ℕ) → SaysFault say → (read : Result Script LineFault)
    (old new : Option (List ℕ)) (given : Option Script) → given ≡ None → HandedOut read old new (Ok given)
    → Appends old new (say read)
handed_none say says (Ok script) old new given none h = absurd (cc (sym none ∙ h.2))
handed_none say says (Err line) old new given none h = subst (Appends old new) (sym (says line)) h.0

-- and the run ends as faulted
pub handed_outcome : (end : Result Script LineFault → Outcome) → ((line : LineFault) → end (Err line) ≡ Faulted)
    → (read : Result Script LineFault) (old new : Option (List ℕ)) (given : Option Script) → given ≡ None
    → HandedOut read old new (Ok given) → Faulted ≡ end read
handed_outcome end ends (Ok script) old new given none h = absurd (cc (sym none ∙ h.2))
handed_outcome end ends (Err line) old new given none h = sym (ends line)

-- after a fault a prefix of it was
pub handed_fault : (say : Result Script LineFault → List ℕ) → SaysFault say → (read : Result Script LineFault)
    (old new : Option (List ℕ)) (fault : DriveFault) → HandedOut read old new (Err fault)
    → AppendsPrefix old new (say read)
handed_fault say says (Ok script) old new fault h = AppendsPrefix-longer old new [] (say (Ok script)) h.0
handed_fault say says (Err line) old new fault h = subst (AppendsPrefix old new) (sym (says line)) h.0
