-- A trace of what is read piece by piece, and written as it comes.
use Rattle.std.proofs.Common.{◌≡◌, ◌∙◌, ap, refl, subst, sym, ℕ, true, List, [], ◌++◌, append-nil, Option, Some, None, IfSome}
use Rattle.std.specs.Prelude.{Result, Ok, Err, is_err}
use Rattle.std.specs.Io.KnownBytes.{Appends, Consumes, IsAtEnd}
use Rattle.std.proofs.KnownBytes.{Appends-nil, Appends-trans}
use Rattle.sva_streams.specs.declared.streams.DriveFault.{DriveFault}
use Rattle.sva_streams.specs.declared.streams.Outcome.{Outcome}
use Rattle.sva_streams.specs.Streams.{AppendsPrefix}
use Rattle.sva_streams.proofs.StreamLemmas.{AppendsPrefix-after, AppendsPrefix-longer}
use Rattle.sva_snapshot.specs.Explaining.{Explaining}
use Rattle.sva_script_reports.specs.declared.rows.Style.{Style}
use Rattle.sva_script_reading.specs.Said.{Prints}
use Rattle.sva_script_reading.specs.Said.{Said}
use Rattle.sva_script_reports.specs.Traces.{Tracer, TracesPiece, fresh, then_said, trace_of, trace_rest}
use Rattle.sva_script_reports.proofs.TraceLemmas.{then_both}

-- of known input: what was written so far, and what is said of what is held and of what isn't read yet, are the trace of all
abbrev pub TracesInput : (explained : Explaining) → Style → (input left written now : Option (List ℕ)) → Tracer → (held : List ℕ) → Type 0
TracesInput explained style None left written now tracer held = Unit {0}
TracesInput explained style (Some input) None written now tracer held = ⊥
TracesInput explained style (Some input) (Some left) written now tracer held =
    (text : List ℕ) × Appends written now text × (trace_of explained style input ≡ then_said text (trace_rest explained tracer (held ++ left)))

-- nothing was read
pub input_begins : (explained : Explaining) (style : Style) (input written : Option (List ℕ)) → TracesInput explained style input input written written
    (record { style = style; lines = 0; tracing = fresh }) []
input_begins explained style None written = tt
input_begins explained style (Some input) written = ([], Appends-nil written, refl)

-- what is said of a piece comes next
goes_on : (explained : Explaining) (style : Style) (input left rest text : List ℕ) (before after : Tracer) (held kept piece out : List ℕ)
    → trace_of explained style input ≡ then_said text (trace_rest explained before (held ++ left)) → left ≡ piece ++ rest
    → TracesPiece explained before held piece after kept [] out
    → trace_of explained style input ≡ then_said (text ++ out) (trace_rest explained after (kept ++ rest))
goes_on explained style input left rest text before after held kept piece out so_far read said =
    so_far ∙ ap (λ l. then_said text (trace_rest explained before (held ++ l))) read ∙ ap (then_said text) (said.2 rest)
    ∙ then_both text said.0 (trace_rest explained after (kept ++ rest))
    ∙ ap (λ more. then_said (text ++ more) (trace_rest explained after (kept ++ rest))) (sym said.1)

-- a piece is taken from an empty text on, and what is written is that text then
pub piece_said : (explained : Explaining) (before after : Tracer) (held piece kept cleared new out : List ℕ) → cleared ≡ [] → out ≡ new
    → TracesPiece explained before held piece after kept cleared new → TracesPiece explained before held piece after kept [] out
piece_said explained before after held piece kept cleared new out none is said =
    subst (λ old. TracesPiece explained before held piece after kept old out) none
    (subst (TracesPiece explained before held piece after kept cleared) (sym is) said)

-- a piece was read, and what is said of it was written
pub input_goes_on : (explained : Explaining) (style : Style) (input left rest written now new : Option (List ℕ)) (before after : Tracer)
    (held kept piece out : List ℕ)
    → TracesInput explained style input left written now before held → Consumes left rest piece → TracesPiece explained before held piece after kept [] out
    → Appends now new out → TracesInput explained style input rest written new after kept
input_goes_on explained style None left rest written now new before after held kept piece out so_far read said appended = tt
input_goes_on explained style (Some input) None rest written now new before after held kept piece out so_far read said appended = absurd so_far
input_goes_on explained style (Some input) (Some left) None written now new before after held kept piece out so_far read said appended = absurd read
input_goes_on explained style (Some input) (Some left) (Some rest) written now new before after held kept piece out so_far read said appended = (
  so_far.0 ++ out,
  Appends-trans written now new so_far.0 out so_far.1 appended,
  goes_on explained style input left rest so_far.0 before after held kept piece out so_far.2 read said,
)

-- or a prefix of that was written
pub input_breaks : (explained : Explaining) (style : Style) (input left rest written now new : Option (List ℕ)) (before after : Tracer)
    (held kept piece out : List ℕ)
    (fault : DriveFault) → TracesInput explained style input left written now before held → Consumes left rest piece
    → TracesPiece explained before held piece after kept [] out → AppendsPrefix now new out
    → IfSome input (λ all. Prints (trace_of explained style all) written new (Err fault))
input_breaks explained style None left rest written now new before after held kept piece out fault so_far read said appended = tt
input_breaks explained style (Some input) None rest written now new before after held kept piece out fault so_far read said appended = absurd so_far
input_breaks explained style (Some input) (Some left) None written now new before after held kept piece out fault so_far read said appended = absurd read
input_breaks explained style (Some input) (Some left) (Some rest) written now new before after held kept piece out fault so_far read said appended =
    let all = goes_on explained style input left rest so_far.0 before after held kept piece out so_far.2 read said in (
      subst (AppendsPrefix written new) (sym (ap (λ (said : Said). said.text) all))
          (AppendsPrefix-longer written new (so_far.0 ++ out) (trace_rest explained after (kept ++ rest)).text
          (AppendsPrefix-after written now new so_far.0 out so_far.1 appended)),
      tt,
    )

-- what was written is a prefix of the whole
pub input_cut : (explained : Explaining) (style : Style) (input left written now : Option (List ℕ)) (tracer : Tracer) (held : List ℕ) (fault : DriveFault)
    → TracesInput explained style input left written now tracer held
    → IfSome input (λ all. Prints (trace_of explained style all) written now (Err fault))
input_cut explained style None left written now tracer held fault so_far = tt
input_cut explained style (Some input) None written now tracer held fault so_far = absurd so_far
input_cut explained style (Some input) (Some left) written now tracer held fault so_far =
    ((so_far.0, (trace_rest explained tracer (held ++ left)).text, sym (ap (λ (said : Said). said.text) so_far.2), so_far.1), tt)

-- all was read
all_read : (explained : Explaining) (style : Style) (input left rest text : List ℕ) (tracer : Tracer) (held piece : List ℕ)
    → trace_of explained style input ≡ then_said text (trace_rest explained tracer (held ++ left)) → left ≡ piece ++ rest → piece ≡ [] → rest ≡ []
    → trace_of explained style input ≡ then_said text (trace_rest explained tracer held)
all_read explained style input left rest text tracer held piece so_far read none end =
    let gone : left ≡ [] = read ∙ ap (λ l. l ++ rest) none ∙ end in
    so_far ∙ ap (λ l. then_said text (trace_rest explained tracer (held ++ l))) gone ∙ ap (λ l. then_said text (trace_rest explained tracer l))
    (append-nil held)

-- and what stands at the end was written
pub input_ends : (explained : Explaining) (style : Style) (input left rest written now new : Option (List ℕ)) (tracer : Tracer)
    (held piece out : List ℕ) (outcome : Outcome)
    → TracesInput explained style input left written now tracer held → Consumes left rest piece → piece ≡ [] → IsAtEnd rest
    → out ≡ (trace_rest explained tracer held).text → outcome ≡ (trace_rest explained tracer held).outcome → Appends now new out
    → IfSome input (λ all. Prints (trace_of explained style all) written new (Ok outcome))
input_ends explained style None left rest written now new tracer held piece out outcome so_far read none end said ends appended = tt
input_ends explained style (Some input) None rest written now new tracer held piece out outcome so_far read none end said ends appended = absurd so_far
input_ends explained style (Some input) (Some left) None written now new tracer held piece out outcome so_far read none end said ends appended = absurd read
input_ends explained style (Some input) (Some left) (Some rest) written now new tracer held piece out outcome so_far read none end said ends appended =
    let all = all_read explained style input left rest so_far.0 tracer held piece so_far.2 read none end in (
      subst (Appends written new) (sym (ap (λ (said : Said). said.text) all ∙ ap (λ l. so_far.0 ++ l) (sym said)))
          (Appends-trans written now new so_far.0 out so_far.1 appended),
      ends ∙ sym (ap (λ (said : Said). said.outcome) all),
    )

-- or a prefix of that
pub input_end_breaks : (explained : Explaining) (style : Style) (input left rest written now new : Option (List ℕ)) (tracer : Tracer) (held piece out : List ℕ)
    (fault : DriveFault) → TracesInput explained style input left written now tracer held → Consumes left rest piece → piece ≡ [] → IsAtEnd rest
    → out ≡ (trace_rest explained tracer held).text → AppendsPrefix now new out
    → IfSome input (λ all. Prints (trace_of explained style all) written new (Err fault))
input_end_breaks explained style None left rest written now new tracer held piece out fault so_far read none end said appended = tt
input_end_breaks explained style (Some input) None rest written now new tracer held piece out fault so_far read none end said appended = absurd so_far
input_end_breaks explained style (Some input) (Some left) None written now new tracer held piece out fault so_far read none end said appended = absurd read
input_end_breaks explained style (Some input) (Some left) (Some rest) written now new tracer held piece out fault so_far read none end said appended =
    let all = all_read explained style input left rest so_far.0 tracer held piece so_far.2 read none end in (
      subst (AppendsPrefix written new) (sym (ap (λ (said : Said). said.text) all ∙ ap (λ l. so_far.0 ++ l) (sym said)))
          (AppendsPrefix-after written now new so_far.0 out so_far.1 appended),
      tt,
    )

-- and the fault is handed on
pub failed_print : (explained : Explaining) (style : Style) (input written new : Option (List ℕ)) (result : Result Outcome DriveFault) → is_err result ≡ true
    → ((fault : DriveFault) → IfSome input (λ all. Prints (trace_of explained style all) written new (Err fault)))
    → IfSome input (λ all. Prints (trace_of explained style all) written new result)
failed_print explained style input written new (Ok outcome) failed by = absurd (cc failed)
failed_print explained style input written new (Err fault) failed by = by fault
