-- Whether a step of the host wants memory: with its table of jobs beside it as without.
use Rattle.std.proofs.Common.{◌≡◌, refl, ap, sym, ◌∙◌, subst, ℕ}
use Rattle.std.specs.Prelude.{Option, Some, None}
use Rattle.sva_model.specs.Wire.{Wire, UnitWire, FlightWire}
use Rattle.sva_step.specs.declared.steps.Step.{Step}
use Rattle.sva_step.specs.declared.steps.Step.TheVariants as step
use Rattle.sva_labels.specs.Finding.{binding_of, unit_of, flight_of}
use Rattle.sva_labels.specs.Causes.{delivery_sends, sends_invalidate}
use Rattle.sva_host_state.specs.Arriving.{answers}
use Rattle.sva_host.specs.Applied.{AsksNoJobTable, IsCutOff, TakesNoMemory}
use Rattle.sva_host.specs.Seen.{JobTableWire, job_table_seen, serving}
use Rattle.sva_host.specs.Inner.{wire_of}
use Rattle.sva_host.specs.declared.host.Host.TheInside.{Inside}
use Rattle.sva_host.proofs.Parts.{unit_with}

pub unit_seen : (host : Inside) (v : Wire) (e : ℕ) → wire_of host ≡ v → unit_of host.state e ≡ unit_of v e
unit_seen host v e view = sym (unit_with (job_table_seen host.workers host.job_table).groups host.state.parts e) ∙ ap (λ (w : Wire). unit_of w e) view

answers_with : (job_table : JobTableWire) (w : Wire) (o : Option FlightWire) → answers w o ≡ answers (serving job_table w) o
answers_with job_table w None = refl
answers_with job_table w (Some f) = ap (λ (unit : UnitWire). delivery_sends unit f.message) (sym (unit_with job_table.groups w.parts f.endpoint))

pub answers_seen : (host : Inside) (v : Wire) (n : ℕ) → wire_of host ≡ v → answers host.state (flight_of host.state n) ≡ answers v (flight_of v n)
answers_seen host v n view =
    answers_with (job_table_seen host.workers host.job_table) host.state (flight_of host.state n) ∙ ap (λ (w : Wire). answers w (flight_of w n)) view

-- so a step that asks no table of jobs and takes no memory takes none at the host alone
pub takes_seen : (host : Inside) (v : Wire) (s : Step) → wire_of host ≡ v → AsksNoJobTable s → TakesNoMemory v s → TakesNoMemory host.state s
takes_seen host v step.Space view asks takes = absurd takes
takes_seen host v (step.DropSpace n) view asks takes = tt
takes_seen host v (step.Map n q x) view asks takes = absurd takes
takes_seen host v (step.Unmap n q count) view asks takes = tt
takes_seen host v (step.UnmapRange n q order) view asks takes = tt
takes_seen host v (step.Bind e n) view asks takes = absurd takes
takes_seen host v (step.Unbind n) view asks takes = subst (λ (w : Wire). IsCutOff (binding_of w n)) (sym view) takes
takes_seen host v (step.Advance n) view asks takes = absurd asks
takes_seen host v (step.Pump e) view asks takes = ap sends_invalidate (unit_seen host v e view) ∙ takes
takes_seen host v (step.Serve e) view asks takes = absurd asks
takes_seen host v (step.Reset e) view asks takes = absurd asks
takes_seen host v (step.Take x) view asks takes = absurd asks
takes_seen host v (step.Reply x verdict) view asks takes = absurd asks
takes_seen host v (step.Ask e t q) view asks takes = absurd takes
takes_seen host v (step.BeginUse e t q x) view asks takes = tt
takes_seen host v (step.EndUse e u) view asks takes = tt
takes_seen host v (step.Evict e t q) view asks takes = tt
takes_seen host v (step.Fault e t q r x group l) view asks takes = absurd takes
takes_seen host v (step.Finish e vector count) view asks takes = absurd takes
takes_seen host v (step.Quit e t) view asks takes = absurd takes
takes_seen host v (step.Deliver n) view asks takes = answers_seen host v n view ∙ takes
takes_seen host v (step.Look f) view asks takes = tt
takes_seen host v (step.Bearer t) view asks takes = tt
