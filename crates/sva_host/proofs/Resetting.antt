-- A reset of an endpoint: its unit's groups are gone, and its jobs are off the queue.
use Rattle.std.proofs.Common.{◌≡◌, refl, ap, sym, ◌∙◌, subst, ℕ, ◌+◌, ◌≤◌, Bool, true, false, arith}
use Rattle.std.specs.Prelude.{if◌then◌else◌, Ok, Err, List, [], ◌∷◌, slice_set}
use Rattle.sva_step.specs.declared.answers.Answer.{Answer}
use Rattle.sva_step.specs.declared.answers.Answer.TheVariants as answer
use Rattle.sva_step.specs.declared.refusals.Refusal.{Refusal}
use Rattle.sva_step.specs.declared.steps.Step.TheVariants as step
use Rattle.sva_model.specs.Refusals.{Cause}
use Rattle.sva_model.specs.Steps.{Reply}
use Rattle.sva_model.specs.Message.Message.{ResetMessage}
use Rattle.sva_model.specs.Wire.{Wire, EndpointWire}
use Rattle.sva_labels.specs.Finding.{part_of}
use Rattle.sva_labels.specs.Causes.{numbers_spent, causes_of}
use Rattle.sva_labels.specs.Host.{Decision, checked, decide_of}
use Rattle.sva_labels.specs.Moves.{Move, moved, all_moved, sent}
use Rattle.sva_labels.specs.Outcomes.{Result, by_one, result_of}
use Rattle.sva_labels.specs.Waiting.{waiting}
use Rattle.sva_host_state.specs.Steps.{Does, ByLabels}
use Rattle.sva_prq.specs.JobTable.{JobTable, no_jobs, without_unit}
use Rattle.sva_parts_by_labels.specs.JobTable.{groups_seen, hands_seen, ResetIsSeen}
use Rattle.sva_parts_by_labels.specs.JobTableLaws.{IsSound}
use Rattle.sva_parts_by_labels.proofs.JobTableJobs.{job_table_is_seen}
use Rattle.sva_parts_by_labels.proofs.JobTableFiling.{sound_is_kept}
use Rattle.sva_host.specs.Seen.{JobTableWire, parts_with, job_table_seen, serving, with_job_table}
use Rattle.sva_host.specs.Inner.{wire_of, AreHoused, IsHost}
use Rattle.sva_host.specs.declared.host.Host.TheInside.{Inside}
use Rattle.sva_host.proofs.Parts.{device_with, unit_with, set_with}
use Rattle.sva_host.proofs.Housed.{housed_still, housed_after_reset}
use Rattle.sva_host.proofs.Decisions.{there_with, resetting_with}
use Rattle.sva_host.proofs.Hosting.{moves_nothing, refused_with, waits_counted}

-- an endpoint whose unit is reset
abbrev reset_part : EndpointWire → EndpointWire
reset_part p = record p { unit = record p.unit { is_open = false; queue = [] }; page_queue = []; host_groups = [] }

reset_with : (workers : ℕ) (s : JobTable) (w : Wire) (e : ℕ) → moved (with_job_table workers s w) (Move.Reset e)
    ≡ with_job_table workers (without_unit s e) (moved w (Move.Reset e))
reset_with workers s w e =
    λ i. sent e ResetMessage
    (record w {
      parts = sym parts i;
      jobs = sym seen.jobs i;
      hands = hands_seen workers s;
    })
  where
    seen : ResetIsSeen s e
    seen = job_table_is_seen.reset s e

    parts : parts_with (λ k. groups_seen k (without_unit s e).groups) (slice_set w.parts e (reset_part (part_of w e)))
        ≡ slice_set (parts_with (λ k. groups_seen k s.groups) w.parts) e (reset_part (part_of (with_job_table workers s w) e))
    parts =
        set_with (λ k. groups_seen k s.groups) (λ k. groups_seen k (without_unit s e).groups) w.parts e (reset_part (part_of w e)) seen.others
        ∙ (λ i. slice_set (parts_with (λ k. groups_seen k s.groups) w.parts) e
        (record {
          device = sym (device_with (λ k. groups_seen k s.groups) w.parts e) i;
          unit = record (sym (unit_with (λ k. groups_seen k s.groups) w.parts e) i) { is_open = false; queue = [] };
          page_queue = [];
          host_groups = seen.groups i;
        }))

-- what is decided doesn't ask the table of jobs
decided : (job_table : JobTableWire) (w : Wire) (e : ℕ) → decide_of (serving job_table w) (step.Reset e) ≡ decide_of w (step.Reset e)
decided job_table w e =
    λ i. checked (there_with job_table w e i ∷ resetting_with job_table w e i ∷ numbers_spent w.next_message 1 ∷ []) (by_one answer.Resetting (Move.Reset e))

-- what is accepted moves what it says
pub accepted : (causes : List Cause) (r : Result) (a : Answer) → Ok a ≡ (checked causes r).reply → (checked causes r).moves ≡ r.moves
accepted [] r a is = refl
accepted (cause ∷ causes) r a is = go cause.0 (accepted causes r a) is
  where
    go : (b : Bool) → (Ok a ≡ (checked causes r).reply → (checked causes r).moves ≡ r.moves)
        → Ok a ≡ (if b then record { reply = Err cause.1; moves = [] } else checked causes r).reply
        → (if b then record { reply = Err cause.1; moves = [] } else checked causes r).moves ≡ r.moves
    go true rest is = absurd (wrong is)
      where
        wrong : ◌≡◌ {A = Reply} (Ok a) (Err cause.1) → ⊥
        wrong h = cc
    go false rest is = rest is

moved_by : (w after : Wire) (e : ℕ) (a : Answer) → ByLabels w (step.Reset e) (Ok a) after → after ≡ moved w (Move.Reset e)
moved_by w after e a is = is.1 ∙ ap (all_moved w) (accepted (causes_of w (step.Reset e)) (result_of w (step.Reset e)) a is.0)

pub reset_refused : (host : Inside) (e : ℕ) (x : Refusal) (after : Wire) → ByLabels host.state (step.Reset e) (Err x) after
    → ByLabels (wire_of host) (step.Reset e) (Err x) (wire_of (record host { state = after }))
reset_refused host e x after is =
    subst (λ (d : Decision). Does d (wire_of host) (Err x) (wire_of (record host { state = after }))) (sym (decided job_table host.state e))
    (refused_with job_table (decide_of host.state (step.Reset e)) host.state after x
    (moves_nothing (causes_of host.state (step.Reset e)) (by_one answer.Resetting (Move.Reset e)) x) is)
  where
    job_table : JobTableWire
    job_table = job_table_seen host.workers host.job_table

pub reset_done : (host : Inside) (v : Wire) (e : ℕ) (a : Answer) (after : Wire) (left : JobTable) → wire_of host ≡ v
    → ByLabels host.state (step.Reset e) (Ok a) after
    → left ≡ without_unit host.job_table e
    → ByLabels v (step.Reset e) (Ok a) (wire_of (record host { state = after; job_table = left }))
reset_done host v e a after left view is drops =
    subst (λ (u : Wire). ByLabels u (step.Reset e) (Ok a) (wire_of (record host { state = after; job_table = left }))) view
    (is.0 ∙ ap (λ (d : Decision). d.reply) (sym same), seen)
  where
    same : decide_of (wire_of host) (step.Reset e) ≡ decide_of host.state (step.Reset e)
    same = decided (job_table_seen host.workers host.job_table) host.state e

    seen : wire_of (record host { state = after; job_table = left }) ≡ all_moved (wire_of host) (decide_of (wire_of host) (step.Reset e)).moves
    seen =
        (λ i. with_job_table host.workers (drops i) (moved_by host.state after e a is i))
        ∙ sym (reset_with host.workers host.job_table host.state e)
        ∙ sym (ap (all_moved (wire_of host)) (ap (λ (d : Decision). d.moves) same
        ∙ accepted (causes_of host.state (step.Reset e)) (result_of host.state (step.Reset e)) a is.0))

pub reset_still : (host : Inside) (e : ℕ) (a : Answer) (after : Wire) (left : JobTable) → IsHost host → ByLabels host.state (step.Reset e) (Ok a) after
    → left ≡ without_unit host.job_table e
    → IsHost (record host { state = after; job_table = left })
reset_still host e a after left h is drops =
    record {
      apart =
          moves ∙ ap (λ (w : Wire). moved w (Move.Reset e)) h.apart ∙ reset_with host.workers no_jobs host.state e
          ∙ ap (with_job_table host.workers no_jobs) (sym moves);
      few = h.few;
      sound = subst (IsSound host.workers) (sym drops) (sound_is_kept.reset host.workers host.job_table e h.sound);
      serials =
          subst (λ (s : JobTable). s.groups.next + waiting after ≤ after.next_message) (sym drops)
          (omega (arith, h.serials, waits_counted (step.Reset e) (Ok a) host.state after is));
      housed =
          subst (AreHoused after) (sym drops)
          (housed_still (decide_of host.state (step.Reset e)) host.state after (Ok a) (without_unit host.job_table e)
          (housed_after_reset host.state host.job_table e h.housed) is);
    }
  where
    moves : after ≡ moved host.state (Move.Reset e)
    moves = moved_by host.state after e a is
