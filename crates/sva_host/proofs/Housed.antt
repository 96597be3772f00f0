-- The open groups of a table of jobs are of units that are there, since a step leaves as many endpoints as there were.
use Rattle.std.proofs.Common.{◌≡◌, ◌⊎◌, inl, inr, refl, ap, sym, ◌∙◌, subst, ℕ, ◌<◌, ◌≤◌, Bool, true, false, arith}
use Rattle.std.proofs.lemmas.Bool.Decides.{nat_tests}
use Rattle.std.proofs.lemmas.List.{length-set}
use Rattle.std.specs.Prelude.{◌==◌, not, Err, Some, List, [], ◌∷◌, filter, length, slice_get}
use Rattle.std.specs.List.{list_any}
use Rattle.sva_step.specs.declared.refusals.Refusal.TheVariants as refusal
use Rattle.sva_model.specs.Steps.{Reply}
use Rattle.sva_model.specs.Wire.{Wire, EndpointWire, BindingWire, HostGroupWire}
use Rattle.sva_labels.specs.Finding.{part_of, has_open_group}
use Rattle.sva_labels.specs.Host.{Decision}
use Rattle.sva_labels.specs.Moves.{Move, moved, all_moved, part_unmapped, is_of_job}
use Rattle.sva_labels.specs.Sound.{IsSound}
use Rattle.sva_labels.proofs.Lists.{tabulate_length}
use Rattle.sva_host_state.specs.Steps.{Does}
use Rattle.sva_msg.specs.declared.messages.PageRequest.{PageRequest}
use Rattle.sva_prq.specs.Groups.{is_open}
use Rattle.sva_prq.specs.Job.{Job}
use Rattle.sva_prq.specs.JobTable.{JobTable, filed, hand, after_answer, without_unit}
use Rattle.sva_parts_by_labels.specs.JobTable.{groups_seen, job_seen, ResetIsSeen}
use Rattle.sva_parts_by_labels.specs.JobTableLaws as laws
use Rattle.sva_parts_by_labels.specs.JobTableLaws.{AnswerIsSeen}
use Rattle.sva_parts_by_labels.proofs.JobTableAnswers.{job_table_answers}
use Rattle.sva_parts_by_labels.proofs.JobTableJobs.{job_table_is_seen}
use Rattle.sva_host.specs.Seen.{job_table_seen, with_job_table}
use Rattle.sva_host.specs.Inner.{AreHoused}
use Rattle.sva_host.proofs.Parts.{length_with, part_with}

-- As many endpoints are there afterwards.

moved_long : (w : Wire) (m : Move) → length (moved w m).parts ≡ length w.parts
moved_long w Move.NewSpace = refl
moved_long w (Move.DropSpace n) = refl
moved_long w (Move.Map n q f x) = refl
moved_long w (Move.Unmap n q count order) = tabulate_length (length w.parts) (part_unmapped w n q count order)
moved_long w Move.NewBinding = refl
moved_long w (Move.Bind e n b t) = refl
moved_long w (Move.Stop e b t) = refl
moved_long w (Move.Drain e b) = length-set w.parts e _
moved_long w (Move.Invalidate e b t) = length-set w.parts e _
moved_long w (Move.Quieten b) = refl
moved_long w (Move.Release b) = refl
moved_long w (Move.Send e t pasid extent) = length-set w.parts e _
moved_long w (Move.Pass e cookie) = length-set w.parts e _
moved_long w (Move.File e b r) = length-set w.parts e _
moved_long w (Move.NewJob job) = refl
moved_long w (Move.Reset e) = length-set w.parts e _
moved_long w Move.Hand = refl
moved_long w (Move.Hold x job) = refl
moved_long w (Move.LetGo x) = refl
moved_long w (Move.Respond job t code) = length-set w.parts job.endpoint _
moved_long w Move.Discard = refl
moved_long w (Move.Ask e t q tag) = length-set w.parts e _
moved_long w (Move.Begin e slot x) = length-set w.parts e _
moved_long w (Move.End e slot) = length-set w.parts e _
moved_long w (Move.Evict e t q) = length-set w.parts e _
moved_long w (Move.Group e t k q r x l) = length-set w.parts e _
moved_long w (Move.Request e t k q r x l) = length-set w.parts e _
moved_long w (Move.Finish e vector count) = length-set w.parts e _
moved_long w (Move.Quit e t) = length-set w.parts e _
moved_long w (Move.StartArrives e n t) = length-set w.parts e _
moved_long w (Move.StopArrives e n t) = length-set w.parts e _
moved_long w (Move.ResetArrives e n) = length-set w.parts e _
moved_long w (Move.Keep e n tag x) = length-set w.parts e _
moved_long w (Move.Forget e n tag) = length-set w.parts e _
moved_long w (Move.Take e n itag t extent) = length-set w.parts e _
moved_long w (Move.Answered e n k code) = length-set w.parts e _
moved_long w (Move.Complete e n answer) = refl
moved_long w (Move.Count e n vector count) = length-set w.parts e _
moved_long w (Move.Arrive e n r) = length-set w.parts e _
moved_long w (Move.Mark e n b) = refl
moved_long w (Move.Ignore n) = refl
moved_long w (Move.Reopen e n) = length-set w.parts e _

all_moved_long : (w : Wire) (moves : List Move) → length (all_moved w moves).parts ≡ length w.parts
all_moved_long w [] = refl
all_moved_long w (m ∷ moves) = all_moved_long (moved w m) moves ∙ moved_long w m

pub does_long : (d : Decision) (w after : Wire) (r : Reply) → Does d w r after → length after.parts ≡ length w.parts
does_long d w after (Err refusal.OutOfMemory) does = ap (λ (v : Wire). length v.parts) does.1
does_long d w after _ does = ap (λ (v : Wire). length v.parts) does.1 ∙ all_moved_long w d.moves

-- So the groups stay at units that are there.

pub housed_still : (d : Decision) (w after : Wire) (r : Reply) (s : JobTable) → AreHoused w s → Does d w r after → AreHoused after s
housed_still d w after r s housed does = λ e past. housed e (subst (λ (n : ℕ). n ≤ e) (does_long d w after r does) past)

pub housed_after_reset : (w : Wire) (s : JobTable) (e : ℕ) → AreHoused w s → AreHoused w (without_unit s e)
housed_after_reset w s e housed = λ k past. go k past (k == e) refl
  where
    seen : ResetIsSeen s e
    seen = job_table_is_seen.reset s e

    go : (k : ℕ) → length w.parts ≤ k → (b : Bool) → (k == e) ≡ b → groups_seen k (without_unit s e).groups ≡ []
    go k past true is = ap (λ (n : ℕ). groups_seen n (without_unit s e).groups) (same k is) ∙ seen.groups
      where
        same : (k : ℕ) → (k == e) ≡ true → k ≡ e
        same k is = grind (arith, nat_tests, is)
    go k past false is = seen.others k is ∙ housed k past

pub housed_filed : (w : Wire) (s : JobTable) (e b : ℕ) (request : PageRequest) → e < length w.parts → AreHoused w s → AreHoused w (filed s e b request)
housed_filed w s e b request there housed = λ k past. (job_table_is_seen.filed s e b request).others k (apart k past) ∙ housed k past
  where
    apart : (k : ℕ) → length w.parts ≤ k → (k == e) ≡ false
    apart k past = let above : e < k = omega (arith, there, past) in grind (arith, nat_tests, above)

pub housed_answered : (w : Wire) (workers : ℕ) (s : JobTable) (x : ℕ) (job : Job) → laws.IsSound workers s → hand s x ≡ Some job
    → AreHoused w s → AreHoused w (after_answer s x)
housed_answered w workers s x job sound held housed = λ k past. go k past (k == job.unit) refl
  where
    seen : AnswerIsSeen s x job
    seen = job_table_answers.groups workers s x job sound held

    go : (k : ℕ) → length w.parts ≤ k → (b : Bool) → (k == job.unit) ≡ b → groups_seen k (after_answer s x).groups ≡ []
    go k past true is =
        ap (λ (n : ℕ). groups_seen n (after_answer s x).groups) (same k is)
        ∙ seen.answered
        ∙ ap (filter (λ g. not (is_of_job (job_seen job) g))) (ap (λ (n : ℕ). groups_seen n s.groups) (sym (same k is)) ∙ housed k past)
      where
        same : (k : ℕ) → (k == job.unit) ≡ true → k ≡ job.unit
        same k is = grind (arith, nat_tests, is)
    go k past false is = seen.others k is ∙ housed k past

-- The open groups of a binding are those of its endpoint.

pub open_at : (s : JobTable) (w : Wire) (workers k : ℕ) (b : BindingWire) → AreHoused w s → IsSound (with_job_table workers s w)
    → slice_get w.bindings k ≡ Some b
    → is_open b.binding s.groups ≡ has_open_group (part_of (with_job_table workers s w) b.endpoint) b.binding
open_at s w workers k b housed sound stands =
    job_table_is_seen.opens s.groups (part_of (with_job_table workers s w) b.endpoint) b.endpoint b.binding
    (there b.endpoint (sound.endpoint_low k b stands)) elsewhere
  where
    there : (e : ℕ) → e < length (with_job_table workers s w).parts → (part_of (with_job_table workers s w) e).host_groups ≡ groups_seen e s.groups
    there e low =
        ap (λ (p : EndpointWire). p.host_groups)
        (part_with (job_table_seen workers s).groups w.parts e (subst (λ (n : ℕ). e < n) (length_with (job_table_seen workers s).groups w.parts) low))

    elsewhere : (e : ℕ) → (e == b.endpoint) ≡ false → list_any (λ (g : HostGroupWire). g.binding == b.binding) (groups_seen e s.groups) ≡ false
    elsewhere e apart = go (there_or_not e (length w.parts))
      where
        there_or_not : (a b : ℕ) → (a < b) ⊎ (b ≤ a)
        there_or_not a b = grind arith

        go : (e < length w.parts) ⊎ (length w.parts ≤ e) → list_any (λ (g : HostGroupWire). g.binding == b.binding) (groups_seen e s.groups) ≡ false
        go (inr past) = ap (λ (groups : List HostGroupWire). list_any (λ g. g.binding == b.binding) groups) (housed e past)
        go (inl low) =
            ap (λ (groups : List HostGroupWire). list_any (λ g. g.binding == b.binding) groups)
            (sym (there e (subst (λ (n : ℕ). e < n) (sym (length_with (job_table_seen workers s).groups w.parts)) low)))
            ∙ sound.groups_at_home k e b stands apart
