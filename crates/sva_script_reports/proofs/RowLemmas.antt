-- A trace behind a line: the config, a step.
use Rattle.std.proofs.Common.{◌≡◌, ◌∙◌, ap, cond, refl, sym, ℕ, true, false, List, [], ◌++◌, append-nil, Option, Some, None}
use Rattle.std.specs.Prelude.{Result, Ok, Err}
use Rattle.sva_step.specs.declared.limits.Config.{Config}
use Rattle.sva_step.specs.declared.refusals.Refusal.TheVariants.{BadConfig}
use Rattle.sva_step.specs.Refusals.{refusal_text}
use Rattle.sva_labels.specs.Host.{first_wire}
use Rattle.sva_model.specs.Claims.{Fits}
use Rattle.sva_model.specs.Wire.{Wire}
use Rattle.sva_grammar.specs.Configs.{is_fit}
use Rattle.sva_grammar.specs.Replies.{ended}
use Rattle.sva_reports.proofs.ScriptLemmas.{configs_are_tested}
use Rattle.sva_grammar.proofs.ConfigLemmas.{unfit_from}
use Rattle.sva_snapshot.specs.Explaining.{Explaining}
use Rattle.sva_script.specs.declared.faults.Wrong.{Wrong}
use Rattle.sva_script.specs.Lines.{parts_of}
use Rattle.sva_script_runs.specs.declared.running.Taken.{Taken}
use Rattle.sva_script_reading.specs.Lines.{LineRead, Plain, plain_text}
use Rattle.sva_script_runs.specs.Runs.{IsTaken, Running, Takes, TakesRead, TellsStep, behind, read_at}
use Rattle.sva_script_reading.specs.Faults.{Fault}
use Rattle.sva_script_reading.specs.Reading.{ReadsConfig}
use Rattle.sva_script_reports.specs.Rows.{row_seen, step_text}
use Rattle.sva_script_reports.specs.Traces.{Traced, Tracer, Traces, Tracing, is_wrong, row_of, trace_config, trace_read, trace_step, trace_words}
use Rattle.sva_script.specs.declared.faults.Wanted.TheVariants as wanted
use Rattle.sva_script_reading.specs.Begins.{at_word, fault_of}

-- ---- The config

abbrev begun_at : Tracing → Config → Traced
begun_at tracing config = (record { run = Some (record { seen = first_wire config; known = [] }); has_ended = false; has_faulted = tracing.has_faulted }, [])

abbrev refused_at : Traced
refused_at = (record { run = None; has_ended = true; has_faulted = true }, ended (refusal_text BadConfig))

-- the run has begun
pub config_opened : (now seen : Tracer) (read : Result Config Fault) (config : Config) (run : Running) (old new : List ℕ) → seen ≡ now
    → now.tracing.has_ended ≡ false → ReadsConfig read (Some config) old new → Fits config → run ≡ record { seen = first_wire config; known = [] }
    → Traces now (trace_config now.tracing read)
    (record {
      style = seen.style;
      lines = seen.lines;
      tracing = record { run = Some run; has_ended = seen.tracing.has_ended; has_faulted = seen.tracing.has_faulted };
    }) old new
config_opened now seen (Ok found) config run old new same open_yet reads fits is =
    let fit : is_fit found ≡ true = ap is_fit (sym reads.0) ∙ (configs_are_tested config).1 fits in
    let traced : trace_config now.tracing (Ok found) ≡ begun_at now.tracing found = ap (λ t. cond t (begun_at now.tracing found) refused_at) fit in (
      ap (λ (t : Tracer). t.style) same,
      ap (λ (t : Tracer). t.lines) same,
      (λ i. record {
        run = Some ((is ∙ ap (λ c. record { seen = first_wire c; known = [] }) reads.0) i);
        has_ended = (ap (λ (t : Tracer). t.tracing.has_ended) same ∙ open_yet) i;
        has_faulted = ap (λ (t : Tracer). t.tracing.has_faulted) same i;
      }) ∙ sym (ap (λ (t : Traced). t.0) traced),
      reads.1 ∙ sym (append-nil old) ∙ ap (λ l. old ++ l) (sym (ap (λ (t : Traced). t.1) traced)),
    )
config_opened now seen (Err fault) config run old new same open_yet reads fits is = absurd reads

-- the config is out of its limits
pub config_refused : (now seen : Tracer) (read : Result Config Fault) (config : Config) (old mid new : List ℕ) → seen ≡ now → now.tracing.run ≡ None
    → ReadsConfig read (Some config) old mid → (Fits config → ⊥) → new ≡ mid ++ ended (refusal_text BadConfig)
    → Traces now (trace_config now.tracing read)
    (record { style = seen.style; lines = seen.lines; tracing = record { run = seen.tracing.run; has_ended = true; has_faulted = true } }) old new
config_refused now seen (Ok found) config old mid new same none reads unfit told =
    let fit : is_fit found ≡ false = ap is_fit (sym reads.0) ∙ unfit_from config unfit in
    let traced : trace_config now.tracing (Ok found) ≡ refused_at = ap (λ t. cond t (begun_at now.tracing found) refused_at) fit in (
      ap (λ (t : Tracer). t.style) same,
      ap (λ (t : Tracer). t.lines) same,
      (λ i. record { run = (ap (λ (t : Tracer). t.tracing.run) same ∙ none) i; has_ended = true; has_faulted = true }) ∙ sym (ap (λ (t : Traced). t.0) traced),
      told ∙ ap (λ l. l ++ ended (refusal_text BadConfig)) reads.1 ∙ ap (λ l. old ++ l) (sym (ap (λ (t : Traced). t.1) traced)),
    )
config_refused now seen (Err fault) config old mid new same none reads unfit told = absurd reads

-- ---- A step

row_is : (wire : Wire) (plain : Plain) (taken : Taken) → IsTaken wire plain.step taken → row_seen taken ≡ row_of wire plain
row_is wire plain taken is = λ i. record { step = is.is_step i; told = is.told i; delivered = is.delivered i; first_sent = is.first_sent i }

row_by : (explained : Explaining) (now : Tracer) (running after : Running) (words : List (List ℕ)) (text expected : List ℕ) (taken : Taken)
    (read : Result LineRead Wrong)
    → TakesRead running now.lines (parts_of words) after text expected read (Ok (Some taken))
    → trace_read explained now.style now.tracing running now.lines words read
    ≡ (
      record { run = Some after; has_ended = now.tracing.has_ended; has_faulted = now.tracing.has_faulted },
      step_text explained now.style now.lines text after.seen (row_seen taken),
    )
row_by explained now running after words text expected taken (Ok read) takes = by_step read.step refl takes.0 takes.1 takes.2
  where
    by_step : (step : Option Plain) → read.step ≡ step → TellsStep running.seen step (Some taken) → after ≡ behind running now.lines (parts_of words).name step
        → text ≡ plain_text step
        → trace_read explained now.style now.tracing running now.lines words (Ok read)
        ≡ (
          record { run = Some after; has_ended = now.tracing.has_ended; has_faulted = now.tracing.has_faulted },
          step_text explained now.style now.lines text after.seen (row_seen taken),
        )
    by_step None is tells next same = absurd tells
    by_step (Some plain) is tells next same =
        ap (trace_step explained now.style now.tracing running now.lines words) is
        ∙ (λ i. (
          record { run = Some (sym next i); has_ended = now.tracing.has_ended; has_faulted = now.tracing.has_faulted },
          step_text explained now.style now.lines (sym same i) (sym next i).seen (sym (row_is running.seen plain taken tells) i),
        ))
row_by explained now running after words text expected taken (Err wrong) takes = absurd takes.0

some_line : (explained : Explaining) (now : Tracer) (words : List (List ℕ)) (running : Running) (run : Option Running) → run ≡ Some running
    → now.tracing.has_ended ≡ false
    → trace_words explained now.style now.tracing now.lines words run ≡ trace_read explained now.style now.tracing running now.lines words
    (read_at running (parts_of words))
some_line explained now words running run is open_yet =
    ap (trace_words explained now.style now.tracing now.lines words) is
    ∙ ap (λ t. cond t (is_wrong now.tracing (fault_of running.known now.lines words (at_word 0 wanted.NoLine)))
    (trace_read explained now.style now.tracing running now.lines words (read_at running (parts_of words)))) open_yet

-- its row was appended
pub row_told : (explained : Explaining) (now seen : Tracer) (running after : Running) (words : List (List ℕ)) (text expected old new : List ℕ)
    (taken : Taken) → seen ≡ now
    → now.tracing.run ≡ Some running → now.tracing.has_ended ≡ false
    → Takes running now.lines (parts_of words) after text expected (Ok (Some taken)) → new ≡ old
    ++ step_text explained now.style now.lines text after.seen (row_seen taken)
    → Traces now (trace_words explained now.style now.tracing now.lines words now.tracing.run)
    (record {
      style = seen.style;
      lines = seen.lines;
      tracing = record { run = Some after; has_ended = seen.tracing.has_ended; has_faulted = seen.tracing.has_faulted };
    }) old new
row_told explained now seen running after words text expected old new taken same is open_yet takes told =
    let traced = some_line explained now words running now.tracing.run is open_yet
    ∙ row_by explained now running after words text expected taken (read_at running (parts_of words)) takes in (
      ap (λ (t : Tracer). t.style) same,
      ap (λ (t : Tracer). t.lines) same,
      (λ i. record {
        run = Some after;
        has_ended = ap (λ (t : Tracer). t.tracing.has_ended) same i;
        has_faulted = ap (λ (t : Tracer). t.tracing.has_faulted) same i;
      })
          ∙ sym (ap (λ (t : Traced). t.0) traced),
      told ∙ ap (λ l. old ++ l) (sym (ap (λ (t : Traced). t.1) traced)),
    )
