-- What `trace` says of a script, line by line.
use Rattle.std.specs.Prelude.{◌≡◌, ℕ, ◌==◌, ◌+◌, ◌-◌, Bool, false, true, if◌then◌else◌, List, [], ◌∷◌, ◌++◌, Option, Some, None, Result, Ok, Err}
use Rattle.std.specs.List.{list_any}
use Rattle.sva_step.specs.declared.limits.Config.{Config}
use Rattle.sva_step.specs.declared.refusals.Refusal.TheVariants.{BadConfig}
use Rattle.sva_step.specs.Refusals.{refusal_text}
use Rattle.sva_labels.specs.Host.{first_wire, next_of, reply_of}
use Rattle.sva_model.specs.Wire.{Wire}
use Rattle.sva_streams.specs.declared.streams.Outcome.{Outcome}
use Rattle.sva_streams.specs.declared.streams.Outcome.TheVariants.{Done, Faulted}
use Rattle.sva_grammar.specs.Grammar.{config_read}
use Rattle.sva_grammar.specs.Configs.{is_fit}
use Rattle.sva_grammar.specs.Replies.{ended}
use Rattle.sva_snapshot.specs.Explaining.{Explaining}
use Rattle.sva_script.specs.declared.faults.Wanted.TheVariants as wanted
use Rattle.sva_script.specs.declared.faults.Wrong.{Wrong}
use Rattle.sva_script.specs.Lines.{parts_of, script_words}
use Rattle.sva_script_reading.specs.Lines.{LineRead, Plain}
use Rattle.sva_script_reading.specs.Messages.{link_of}
use Rattle.sva_script_runs.specs.Runs.{Running, behind, delivered_by, read_at, sent_of, told_of}
use Rattle.sva_script_reports.specs.declared.rows.Style.{Style}
use Rattle.sva_script_reading.specs.Faults.{Fault, fault_text}
use Rattle.sva_script_reports.specs.Rows.{Row, end_text, step_text}
use Rattle.sva_script_reading.specs.Said.{Said}
use Rattle.sva_script_reading.specs.Begins.{Line, at_word, config_by, fault_of, joined_words, lines_from}
use Rattle.sva_reports.specs.Counts.{counts_at}

-- where a trace is: the run, once there is a config; may no line follow, and was one wrong?
pub record Tracing : Type 0 where
  pub run : Option Running
  pub has_ended : Bool
  pub has_faulted : Bool

-- before its first line
abbrev pub fresh : Tracing
fresh = record { run = None; has_ended = false; has_faulted = false }

-- a line is wrong, and changes nothing
abbrev pub faulted : Tracing → Tracing
faulted tracing = record { run = tracing.run; has_ended = tracing.has_ended; has_faulted = true }

-- where a trace is behind a line, and what was said of that
abbrev pub Traced : Type 0
Traced = Tracing × List ℕ

abbrev pub is_wrong : Tracing → Fault → Traced
is_wrong tracing fault = (faulted tracing, fault_text fault)

-- ---- The config

abbrev pub trace_config : Tracing → Result Config Fault → Traced
trace_config tracing (Ok config) =
    if is_fit config
    then (record { run = Some (record { seen = first_wire config; known = [] }); has_ended = false; has_faulted = tracing.has_faulted }, [])
    else (record { run = None; has_ended = true; has_faulted = true }, ended (refusal_text BadConfig))
trace_config tracing (Err fault) = is_wrong tracing fault

-- ---- A step

-- what a step came to where this was kept
abbrev pub row_of : Wire → Plain → Row
row_of wire plain = record {
  step = plain.step;
  told = told_of wire plain.step;
  delivered = delivered_by (link_of (Some wire)) (reply_of wire plain.step) plain.step;
  first_sent = sent_of (link_of (Some (next_of wire plain.step))) ((next_of wire plain.step).next_message - wire.next_message);
}

-- the row of a step, with what holds it back where that is wanted; `end => ..` has none, and no line may follow it
abbrev pub trace_step : Explaining → Style → Tracing → Running → (line : ℕ) → List (List ℕ) → Option Plain → Traced
trace_step explained style tracing running line words (Some plain) = (
  record { run = Some (behind running line (parts_of words).name (Some plain)); has_ended = tracing.has_ended; has_faulted = tracing.has_faulted },
  step_text explained style line plain.text (next_of running.seen plain.step) (row_of running.seen plain),
)
trace_step explained style tracing running line words None = (record { run = Some running; has_ended = true; has_faulted = tracing.has_faulted }, [])

abbrev pub trace_read : Explaining → Style → Tracing → Running → (line : ℕ) → List (List ℕ) → Result LineRead Wrong → Traced
trace_read explained style tracing running line words (Ok read) = trace_step explained style tracing running line words read.step
trace_read explained style tracing running line words (Err wrong) = is_wrong tracing (fault_of running.known line words wrong)

-- ---- A line

-- behind a config that is out of its limits nothing is said
abbrev pub trace_words : Explaining → Style → Tracing → (line : ℕ) → List (List ℕ) → Option Running → Traced
trace_words explained style tracing line words None =
    if tracing.has_ended then (tracing, []) else trace_config tracing (config_by line words (config_read (joined_words words)))
trace_words explained style tracing line words (Some running) =
    if tracing.has_ended then is_wrong tracing (fault_of running.known line words (at_word 0 wanted.NoLine))
    else trace_read explained style tracing running line words (read_at running (parts_of words))

-- a line that says nothing has no row
abbrev pub trace_line : Explaining → Style → Tracing → (line : ℕ) → List (List ℕ) → Traced
trace_line explained style tracing line [] = (tracing, [])
trace_line explained style tracing line words = trace_words explained style tracing line words tracing.run

-- ---- The whole

-- at the end stand the counts; or there was no config
abbrev pub end_of : Style → Tracing → (before : ℕ) → Option Running → List ℕ
end_of style tracing before (Some running) = end_text style.columns (counts_at running.seen)
end_of style tracing before None = if tracing.has_faulted then [] else fault_text (fault_of [] (before + 1) [] (at_word 0 wanted.Config))

abbrev pub end_outcome : Tracing → Option Running → Outcome
end_outcome tracing (Some running) = if tracing.has_faulted then Faulted else Done
end_outcome tracing None = Faulted

abbrev pub end_said : Style → Tracing → (before : ℕ) → Said
end_said style tracing before = record { text = end_of style tracing before tracing.run; outcome = end_outcome tracing tracing.run }

-- more is said behind
abbrev pub then_said : List ℕ → Said → Said
then_said text said = record { text = text ++ said.text; outcome = said.outcome }

abbrev pub trace_more : (rest : Tracing → Said) → Traced → Said
trace_more rest (tracing, text) = then_said text (rest tracing)

-- what is said of the lines from here on; the line before them has the number `before`
unfoldable pub trace_from : Explaining → Style → Tracing → (before : ℕ) → List Line → Said
trace_from explained style tracing before [] = end_said style tracing before
trace_from explained style tracing before (line ∷ lines) =
    trace_more (λ next. trace_from explained style next line.0 lines) (trace_line explained style tracing line.0 (script_words line.1))

-- what `trace` says of a script
abbrev pub trace_of : Explaining → Style → List ℕ → Said
trace_of explained style text = trace_from explained style fresh 0 (lines_from 1 text)

-- ---- What a call makes of it

-- a trace that goes on: how its rows are written, how many lines it took, and where it is
pub record Tracer : Type 0 where
  pub style : Style
  pub lines : ℕ
  pub tracing : Tracing

-- what is said of a text whose lines follow
abbrev pub trace_rest : Explaining → Tracer → List ℕ → Said
trace_rest explained tracer text = trace_from explained tracer.style tracer.tracing tracer.lines (lines_from (tracer.lines + 1) text)

-- where it is behind a line, which it took, and what was appended of that
abbrev pub Traces : Tracer → Traced → Tracer → (before after : List ℕ) → Type 0
Traces old traced new before after =
    (new.style ≡ old.style) × (new.lines ≡ old.lines) × (new.tracing ≡ traced.0) × (after ≡ before ++ traced.1)

-- the same of a line that wasn't counted yet
abbrev pub TracesLine : Explaining → Tracer → (line : List ℕ) → Tracer → (before after : List ℕ) → Type 0
TracesLine explained old line new before after =
    (new.style ≡ old.style) × (new.lines ≡ old.lines + 1)
    × (new.tracing ≡ (trace_line explained old.style old.tracing (old.lines + 1) (script_words line)).0)
    × (after ≡ before ++ (trace_line explained old.style old.tracing (old.lines + 1) (script_words line)).1)

-- no byte ends a line (10)
abbrev pub NoEnd : List ℕ → Type 0
NoEnd text = list_any (λ byte. byte == 10) text ≡ false

-- what was appended is said of these bytes first, whatever follows; what has not ended is held
abbrev pub TracesPiece : Explaining → Tracer → (held piece : List ℕ) → Tracer → (left : List ℕ) → (before after : List ℕ) → Type 0
TracesPiece explained old held piece new left before after =
    (text : List ℕ) × (after ≡ before ++ text)
    × ((more : List ℕ) → trace_rest explained old (held ++ (piece ++ more)) ≡ then_said text (trace_rest explained new (left ++ more)))
