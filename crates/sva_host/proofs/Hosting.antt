-- A step of the host alone, with its table of jobs beside it.
use Rattle.std.proofs.Common.{◌≡◌, refl, ap, sym, ◌∙◌, subst, ◌+◌, ◌≤◌, Bool, true, false, arith}
use Rattle.std.specs.Prelude.{if◌then◌else◌, Ok, Err, List, [], ◌∷◌}
use Rattle.sva_step.specs.declared.refusals.Refusal.{Refusal}
use Rattle.sva_step.specs.declared.refusals.Refusal.TheVariants as refusal
use Rattle.sva_model.specs.Refusals.{Cause}
use Rattle.sva_step.specs.declared.steps.Step.{Step}
use Rattle.sva_model.specs.Steps.{Reply}
use Rattle.sva_model.specs.Wire.{Wire}
use Rattle.sva_labels.specs.Host.{Decision, checked, decide_of}
use Rattle.sva_labels.specs.Moves.{all_moved}
use Rattle.sva_labels.specs.Causes.{causes_of}
use Rattle.sva_labels.specs.Outcomes.{Result, result_of}
use Rattle.sva_labels.specs.Waiting.{waiting}
use Rattle.sva_labels.proofs.WaitingSteps.{filed_in_turn}
use Rattle.sva_host_state.specs.Steps.{Does, ByLabels}
use Rattle.sva_host.specs.Applied.{AsksNoJobTable}
use Rattle.sva_host.specs.Seen.{JobTableWire, serving}
use Rattle.sva_host.specs.Inner.{wire_of, IsHost}
use Rattle.sva_host.specs.declared.host.Host.TheInside.{Inside}
use Rattle.sva_host.proofs.Changes.{LeaveJobTable, all_moved_with}
use Rattle.sva_host.proofs.Housed.{housed_still}
use Rattle.sva_host.proofs.Decisions.{decide_with, decide_leaves}

-- what the host does by moves that leave the table of jobs, it does with its table of jobs
pub does_with : (job_table : JobTableWire) (d : Decision) (w after : Wire) (r : Reply) → LeaveJobTable d.moves
    → Does d w r after → Does d (serving job_table w) r (serving job_table after)
does_with job_table d w after (Err refusal.OutOfMemory) leave does = (does.0, ap (serving job_table) does.1)
does_with job_table d w after _ leave does = (does.0, ap (serving job_table) does.1 ∙ sym (all_moved_with job_table w d.moves leave))

pub step_with : (job_table : JobTableWire) (w after : Wire) (s : Step) (r : Reply) → AsksNoJobTable s
    → ByLabels w s r after → ByLabels (serving job_table w) s r (serving job_table after)
step_with job_table w after s r asks is =
    subst (λ (d : Decision). Does d (serving job_table w) r (serving job_table after)) (sym (decide_with job_table w s asks))
    (does_with job_table (decide_of w s) w after r (decide_leaves w s asks) is)

-- and what has no groups, jobs and hands has none afterwards
pub does_apart : (job_table : JobTableWire) (d : Decision) (w after : Wire) (r : Reply) → LeaveJobTable d.moves
    → w ≡ serving job_table w → Does d w r after → after ≡ serving job_table after
does_apart job_table d w after (Err refusal.OutOfMemory) leave apart does = subst (λ (v : Wire). v ≡ serving job_table v) (sym does.1) apart
does_apart job_table d w after _ leave apart does =
    does.1 ∙ ap (λ (v : Wire). all_moved v d.moves) apart ∙ all_moved_with job_table w d.moves leave ∙ ap (serving job_table) (sym does.1)

-- a step that is refused moves nothing
pub moves_nothing : (causes : List Cause) (r : Result) (x : Refusal) → (checked causes r).reply ≡ Err x → (checked causes r).moves ≡ []
moves_nothing [] r x is = absurd (wrong is)
  where
    wrong : ◌≡◌ {A = Reply} (Ok r.answer) (Err x) → ⊥
    wrong h = cc
moves_nothing (cause ∷ causes) r x is = go cause.0 (moves_nothing causes r x) is
  where
    go : (b : Bool) → ((checked causes r).reply ≡ Err x → (checked causes r).moves ≡ [])
        → (if b then record { reply = Err cause.1; moves = [] } else checked causes r).reply ≡ Err x
        → (if b then record { reply = Err cause.1; moves = [] } else checked causes r).moves ≡ []
    go true rest is = refl
    go false rest is = rest is

pub refused_with : (job_table : JobTableWire) (d : Decision) (w after : Wire) (x : Refusal) → (d.reply ≡ Err x → d.moves ≡ [])
    → Does d w (Err x) after → Does d (serving job_table w) (Err x) (serving job_table after)
refused_with job_table d w after refusal.OutOfMemory nothing does = (does.0, ap (serving job_table) does.1)
refused_with job_table d w after _ nothing does =
    let none = nothing (sym does.0) in
    (does.0, ap (serving job_table) (does.1 ∙ ap (all_moved w) none) ∙ sym (ap (all_moved (serving job_table w)) none))

pub refused_same : (w after : Wire) (s : Step) (x : Refusal) → ByLabels w s (Err x) after → after ≡ w
refused_same w after s refusal.OutOfMemory does = does.1
refused_same w after s _ does = does.1 ∙ ap (all_moved w) (moves_nothing (causes_of w s) (result_of w s) _ (sym does.0))

-- what waits anew took a number
pub waits_counted : (s : Step) (r : Reply) (w after : Wire) → ByLabels w s r after → waiting after + w.next_message ≤ waiting w + after.next_message
waits_counted s (Err refusal.OutOfMemory) w after does =
    subst (λ (v : Wire). waiting v + w.next_message ≤ waiting w + v.next_message) (sym does.1) (omega arith)
waits_counted s _ w after does =
    subst (λ (v : Wire). waiting v + w.next_message ≤ waiting w + v.next_message) (sym does.1) (omega (arith, filed_in_turn w s))

-- A step that doesn't ask the table of jobs.

pub hosted : (host : Inside) (v : Wire) (s : Step) (r : Reply) (after : Wire) → wire_of host ≡ v → AsksNoJobTable s → ByLabels host.state s r after
    → ByLabels v s r (wire_of (record host { state = after }))
hosted host v s r after view asks is =
    subst (λ (u : Wire). ByLabels u s r (wire_of (record host { state = after }))) view (step_with _ host.state after s r asks is)

pub still : (host : Inside) (s : Step) (r : Reply) (after : Wire) → IsHost host → AsksNoJobTable s → ByLabels host.state s r after
    → IsHost (record host { state = after })
still host s r after h asks is =
    record {
      apart = does_apart _ (decide_of host.state s) host.state after r (decide_leaves host.state s asks) h.apart is;
      few = h.few;
      sound = h.sound;
      serials = omega (arith, h.serials, waits_counted s r host.state after is);
      housed = housed_still (decide_of host.state s) host.state after r host.job_table h.housed is;
    }

-- A step that the host refused.
pub refused_still : (host : Inside) (after : Wire) (s : Step) (x : Refusal) → IsHost host → ByLabels host.state s (Err x) after
    → IsHost (record host { state = after })
refused_still host after s x h is = subst (λ (w : Wire). IsHost (record host { state = w })) (sym (refused_same host.state after s x is)) h
