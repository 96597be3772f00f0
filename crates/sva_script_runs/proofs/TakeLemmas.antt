-- What a line comes to whose step was taken.
use Rattle.std.proofs.Common.{◌≡◌, ◌∙◌, ap, subst, ℕ, List, Option, Some, None, option_map}
use Rattle.std.specs.Prelude.{Result, Ok, Err}
use Rattle.std.proofs.lemmas.Option.{same_Some}
use Rattle.sva_step.specs.declared.steps.Step.{Step}
use Rattle.sva_labels.specs.Host.{next_of}
use Rattle.sva_script.specs.declared.faults.Stop.{Stop}
use Rattle.sva_script.specs.declared.faults.Stop.TheVariants as stop
use Rattle.sva_script.specs.declared.faults.Wrong.{Wrong}
use Rattle.sva_script.specs.Lines.{Parts}
use Rattle.sva_script_runs.specs.declared.running.Taken.{Taken}
use Rattle.sva_script_reading.specs.Lines.{LineRead, Plain, Reads}
use Rattle.sva_script_runs.specs.Runs.{Applies, IsNamed, IsTaken, Running, TakesRead, TellsStep, behind, told_of}
use Rattle.sva_script.specs.Names.{with_name}

-- the step was the line's own, and the name was noted
by_plain : (old mid new : Running) (line : ℕ) (parts : Parts) (name : Option (List ℕ)) (found : Option Plain) (step : Step) (taken : Taken)
    → Some step ≡ option_map (λ plain. plain.step) found → Applies old step mid taken (Ok tt) → name ≡ parts.name
    → IsNamed mid line name taken.told new (Ok tt)
    → TellsStep old.seen found (Some taken) × (new ≡ behind old line parts.name found)
by_plain old mid new line parts name None step taken is applies same named = absurd (cc is)
by_plain old mid new line parts name (Some plain) step taken is applies same named =
    let own : step ≡ plain.step = same_Some step plain.step is in (
      subst (λ s. IsTaken old.seen s taken) own applies.0,
      named ∙ (λ i. record {
        seen = (ap (λ (r : Running). r.seen) applies.1 ∙ ap (next_of old.seen) own) i;
        known =
            with_name (ap (λ (r : Running). r.known) applies.1 i) (same i)
            (record { line = line; told = Some ((applies.0.told ∙ ap (told_of old.seen) own) i) });
      }),
    )

pub line_taken : (old mid new : Running) (line : ℕ) (parts : Parts) (name : Option (List ℕ)) (text expected : List ℕ)
    (read : Result LineRead Wrong) (step : Step) (taken : Taken)
    → Reads read text expected (Ok (Some step)) → Applies old step mid taken (Ok tt) → name ≡ parts.name
    → IsNamed mid line name taken.told new (Ok tt) → TakesRead old line parts new text expected read (Ok (Some taken))
line_taken old mid new line parts name text expected (Ok read) step taken reads applies same named =
    let both = by_plain old mid new line parts name read.step step taken reads.0 applies same named in (both.0, both.1, reads.1, reads.2)
line_taken old mid new line parts name text expected (Err wrong) step taken reads applies same named = absurd reads
