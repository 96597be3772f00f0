-- The step reply by labels: it refuses what the step by names refuses, and answers and moves what this does.
use Rattle.std.proofs.Common.{◌≡◌, refl, ap, ap₂, ◌∙◌, ℕ, suc, ◌+◌, Bool, true, false}
use Rattle.std.specs.Prelude.{Option, Some, None, option_map, ◌&&◌, not, nat_lt, if◌then◌else◌, List, [], ◌∷◌, ◌++◌, length}
use Rattle.sva_step.specs.declared.refusals.Refusal.TheVariants as refusal
use Rattle.sva_step.specs.declared.steps.Step.TheVariants as step
use Rattle.sva_step.specs.declared.steps.Verdict.{Verdict}
use Rattle.sva_model.specs.Words.{is_some, the}
use Rattle.sva_model.specs.Message.{Code}
use Rattle.sva_model.specs.State.{World}
use Rattle.sva_model.specs.States.{is_open}
use Rattle.sva_model.specs.Acts.{Act, LocalAct, act}
use Rattle.sva_model.specs.Replies as names
use Rattle.sva_model.specs.Replies.{response, job_binding, job_space, job_asks, free_list}
use Rattle.sva_model.specs.Refusals.{Cause, reply_refusals}
use Rattle.sva_model.specs.Outcomes.{reply_outcome, code_answer}
use Rattle.sva_model.specs.Labels
use Rattle.sva_model.specs.Wire.{AskWire, number, job_wire, wire}
use Rattle.sva_laws.proofs.Invariant.{Invariant}
use Rattle.sva_labels.proofs.Tests.{is_less}
use Rattle.sva_labels.specs.Finding.{pages_in, free_from, held_by}
use Rattle.sva_labels.specs.Replying.{responds, space_by, space_of_job, newly_mapped, is_write_asked, is_write_of_read_only}
use Rattle.sva_labels.specs.Moves.{Move, pasid_or_0}
use Rattle.sva_labels.specs.Causes.{reply_causes}
use Rattle.sva_labels.specs.Outcomes.{says, maps_to, reply_maps, reply_by, reply_result}
use Rattle.sva_refinement.proofs.Alike.{refused_by, IsAlike, alike_same, alike_held, alike_right, SaysAlike, result_by}
use Rattle.sva_refinement.proofs.Named.{act_moves}
use Rattle.sva_refinement.proofs.LookedBindings.{binding_named}
use Rattle.sva_refinement.proofs.LookedReplies.{InHandNow, response_there, responds_there, success_there, sent_unreleased, succeeds, writes_asked, newly_there}
use Rattle.sva_refinement.proofs.LookedReplies.{read_only_there, free_there, free_count}
use Rattle.sva_refinement.proofs.LookedSpaces.{pages_count}
use Rattle.sva_refinement.proofs.SaysServe.{at_worker, held_there}

-- The causes, by their tests.

abbrev by_tests : World → (success read_only short full responds : Bool) → List Cause
by_tests w success read_only short full responds =
    (success && read_only, refusal.BadVerdict)
    ∷ (success && short, refusal.NoFrame)
    ∷ (success && full, refusal.SpaceFull)
    ∷ (responds && Labels.lacks w w.messages 1, refusal.NumbersSpent)
    ∷ []

-- what is tested of a success matters only there
same_tests :
    (w : World) (success read_only short full responds a b c : Bool) → (success ≡ true → (read_only ≡ a) × (short ≡ b) × (full ≡ c))
    → by_tests w success read_only short full responds ≡ by_tests w success a b c responds
same_tests w false read_only short full responds a b c h = refl
same_tests w true read_only short full responds a b c h = let e = h refl in λ k. by_tests w true (e.0 k) (e.1 k) (e.2 k) responds

tests_there : (w : World) (j : ℕ) (v : Verdict) → Invariant w → InHandNow w j → reply_causes (wire w) v (Some (job_wire w j)) ≡ reply_refusals w j v
tests_there w j v i h =
    (λ k.
    by_tests w (success_there w j v i h k) (is_write_of_read_only (wire w) (job_wire w j))
    (nat_lt (length (free_from 0 (wire w).places)) (length (newly_mapped (wire w) (job_wire w j))))
    (nat_lt 1024 (length (pages_in (wire w) (space_of_job (wire w) (job_wire w j))) + length (newly_mapped (wire w) (job_wire w j))))
    (responds_there w j i h k))
    ∙ same_tests w (names.replies_success w j v) (is_write_of_read_only (wire w) (job_wire w j))
    (nat_lt (length (free_from 0 (wire w).places)) (length (newly_mapped (wire w) (job_wire w j))))
    (nat_lt 1024 (length (pages_in (wire w) (space_of_job (wire w) (job_wire w j))) + length (newly_mapped (wire w) (job_wire w j))))
    (names.responds w j)
    (names.is_write_of_read_only w j)
    (nat_lt (Labels.free_frames w) (length (names.newly_mapped w j)))
    (nat_lt 1024 (Labels.pages_of w (job_space w j) + length (names.newly_mapped w j)))
    (λ e.
    let s = succeeds w j v i e in
    let newly = ap (λ (qs : List ℕ). length qs) (newly_there w j i s) in (
      read_only_there w j i s,
      ap₂ nat_lt (free_count w) newly,
      ap₂ (λ a b. nat_lt 1024 (a + b)) (ap (λ pages. length pages) s.pages ∙ pages_count w (job_space w j)) newly,
    ))

reply_alike :
    (w : World) (v : Verdict) → Invariant w → (x : ℕ) (o : Option ℕ) → w.hand x ≡ o
    → IsAlike (reply_causes (wire w) v (option_map (job_wire w) o)) ((not (is_some o), refusal.NoJob) ∷ reply_refusals w (the o) v)
reply_alike w v i x None h = alike_held (true, refusal.NoJob) (true, refusal.NoJob) [] (reply_refusals w 0 v) refl refl refl
reply_alike w v i x (Some j) h =
    alike_right (false, refusal.NoJob) (reply_causes (wire w) v (Some (job_wire w j))) (reply_refusals w j v) refl
    (alike_same (reply_causes (wire w) v (Some (job_wire w j))) (reply_refusals w j v) (tests_there w j v i (record { worker = x; held = h })))

-- The moves: each page is mapped, and then the response is sent.

-- what is done once the pages are mapped
abbrev then_acts : (worker endpoint group : ℕ) → Code → List Act
then_acts x e g code = Act.LetGo x ∷ Act.AtEndpoint e (LocalAct.Respond g code) ∷ []

maps_moves :
    (x e g s : ℕ) (code : Code) (write : ℕ → Bool) (asks : List AskWire) → ((q : ℕ) → is_write_asked asks q ≡ write q)
    → (qs fs : List ℕ) (w : World)
    → maps_to (number w.config.first s) asks qs fs ++ act_moves w (then_acts x e g code) ≡ act_moves w (names.maps_to s write qs fs ++ then_acts x e g code)
maps_moves x e g s code write asks h [] fs w = refl
maps_moves x e g s code write asks h (q ∷ qs) [] w = refl
maps_moves x e g s code write asks h (q ∷ qs) (f ∷ fs) w =
    ap₂ (λ b ms. Move.Map (number w.config.first s) q f b ∷ ms) (h q) (maps_moves x e g s code write asks h qs fs (act w (Act.Map s q f (write q))))

maps_length : (n s : ℕ) (write : ℕ → Bool) (asks : List AskWire) (qs fs : List ℕ) → length (maps_to n asks qs fs) ≡ length (names.maps_to s write qs fs)
maps_length n s write asks [] fs = refl
maps_length n s write asks (q ∷ qs) [] = refl
maps_length n s write asks (q ∷ qs) (f ∷ fs) = ap (λ k. suc k) (maps_length n s write asks qs fs)

-- the pages that are mapped, if it is a success
maps_there :
    (w : World) (j : ℕ) (v : Verdict) → Invariant w → InHandNow w j
    → reply_maps (wire w) (job_wire w j) v
    ≡ (if names.replies_success w j v then maps_to (number w.config.first (job_space w j)) (job_wire w j).asks (names.newly_mapped w j) (free_list w) else [])
maps_there w j v i h =
    ap (λ b. if b then maps_to (space_of_job (wire w) (job_wire w j)) (job_wire w j).asks (newly_mapped (wire w) (job_wire w j))
    (free_from 0 (wire w).places) else []) (success_there w j v i h)
    ∙ go (names.replies_success w j v) refl
  where
    go :
        (b : Bool) → names.replies_success w j v ≡ b
        → (if b then maps_to (space_of_job (wire w) (job_wire w j)) (job_wire w j).asks (newly_mapped (wire w) (job_wire w j))
        (free_from 0 (wire w).places) else [])
        ≡ (if b then maps_to (number w.config.first (job_space w j)) (job_wire w j).asks (names.newly_mapped w j) (free_list w) else [])
    go false e = refl
    go true e =
        let s = succeeds w j v i e in
        λ k. maps_to (ap space_by s.binding k) (job_wire w j).asks (newly_there w j i s k) (free_there w k)

replied_by :
    (w : World) (x j : ℕ) (v : Verdict) → Invariant w → InHandNow w j → (o : Option Code) → names.response_to w j v ≡ o
    → reply_by (wire w) x (job_wire w j) (reply_maps (wire w) (job_wire w j) v) o ≡ result_by w (reply_outcome w x j (names.reply_maps w j v) o)
replied_by w x j v i h None e = refl
replied_by w x j v i h (Some code) e =
    let u = sent_unreleased (is_open (w.part (w.job j).endpoint).phase) ((w.part (w.job j).endpoint).stage (job_binding w j)) v code e in
    ap₂ (λ ms b. says (code_answer (length ms) code) (ms ++ Move.LetGo x ∷ Move.Respond (job_wire w j) (pasid_or_0 b) code ∷ []))
    (maps_there w j v i h) (binding_named w (w.job j).endpoint (job_binding w j) i u)
    ∙ go (names.replies_success w j v)
  where
    go :
        (b : Bool)
        → says (code_answer
        (length (if b then maps_to (number w.config.first (job_space w j)) (job_wire w j).asks (names.newly_mapped w j) (free_list w) else [])) code)
        ((if b then maps_to (number w.config.first (job_space w j)) (job_wire w j).asks (names.newly_mapped w j) (free_list w) else []) ++ act_moves w
        (then_acts x (w.job j).endpoint (w.job j).group code))
        ≡ says (code_answer
        (length (if b then names.maps_to (job_space w j) (names.is_write_asked w j) (names.newly_mapped w j) (free_list w) else [])) code)
        (act_moves w
        ((if b then names.maps_to (job_space w j) (names.is_write_asked w j) (names.newly_mapped w j) (free_list w) else []) ++ then_acts x
        (w.job j).endpoint (w.job j).group code))
    go false = refl
    go true =
        ap₂ (λ n ms. says (code_answer n code) ms)
        (maps_length (number w.config.first (job_space w j)) (job_space w j) (names.is_write_asked w j) (job_wire w j).asks (names.newly_mapped w j)
        (free_list w))
        (maps_moves x (w.job j).endpoint (w.job j).group (job_space w j) code (names.is_write_asked w j) (job_wire w j).asks
        (λ q. writes_asked (w.part (w.job j).endpoint) q (job_asks w j)) (names.newly_mapped w j) (free_list w) w)

result_there :
    (w : World) (v : Verdict) → Invariant w → (x : ℕ) (o : Option ℕ) → w.hand x ≡ o → not (is_some o) ≡ false
    → reply_result (wire w) x v (option_map (job_wire w) o)
    ≡ result_by w (reply_outcome w x (the o) (names.reply_maps w (the o) v) (names.response_to w (the o) v))
result_there w v i x None h k = absurd (cc (k))
result_there w v i x (Some j) h k =
    let held : InHandNow w j = record { worker = x; held = h } in
    ap (reply_by (wire w) x (job_wire w j) (reply_maps (wire w) (job_wire w j) v)) (response_there w j v i held)
    ∙ replied_by w x j v i held (names.response_to w j v) refl

pub reply_says : (w : World) (x : ℕ) (v : Verdict) → Invariant w → SaysAlike w (step.Reply x v)
reply_says w x v i =
    record {
      alike = at_worker w x (reply_causes (wire w) v (held_by (wire w) x)) ((not (is_some (w.hand x)), refusal.NoJob) ∷ reply_refusals w (the (w.hand x)) v)
          (λ l. ap (λ o. refused_by (reply_causes (wire w) v o)) (held_there w x l) ∙ reply_alike w v i x (w.hand x) refl);
      result = λ k.
          ap (reply_result (wire w) x v) (held_there w x (is_less x w.config.workers k.0)) ∙ result_there w v i x (w.hand x) refl k.1.0;
    }
