-- A step maps pages before it does anything else, each to a frame that was free before the step: so a withheld frame is
-- free by the very step after which no endpoint owes an answer for it.
use Rattle.sva_model.specs.State.{PasidRule}
use Rattle.std.proofs.Common.{◌≡◌, ◌≢◌, ◌⊎◌, inl, inr, refl, ap, sym, ◌∙◌, ℕ, Bool, true, false, arith}
use Rattle.std.specs.Prelude.{Option, Some, None, List, [], ◌∷◌, ◌++◌, if◌then◌else◌, Err}
use Rattle.sva_step.specs.declared.limits.Config.{Config}
use Rattle.sva_step.specs.declared.steps.Step.{Step}
use Rattle.sva_step.specs.declared.steps.Step.TheVariants as step
use Rattle.sva_step.specs.declared.steps.Verdict.{Verdict}
use Rattle.sva_model.specs.Words.{the}
use Rattle.sva_model.specs.Message.{Code}
use Rattle.sva_model.specs.State.{Owed, MappingState, Endpoint, World, Stage, Order, Subject, RequestState}
use Rattle.sva_model.specs.State.MappingState.{Unmade, Present, Gone}
use Rattle.sva_model.specs.State.Stage.{Unbound, Live, Stopping, Draining, Invalidating, Quiet, Lost, Released}
use Rattle.sva_model.specs.State.Order.{RangeOf, PasidOf, Wait}
use Rattle.sva_model.specs.State.RequestState.{Out, Doomed, Over}
use Rattle.sva_model.specs.State.Subject.{StartOf, StopOf, FunctionReset, CompletionOf, InvalidateOf, ResponseOf, RequestOf, InvalidatedOf, PageRequestOf}
use Rattle.sva_model.specs.State.Subject.{MarkerOf, ResetDone}
use Rattle.sva_model.specs.Acts.{Act, LocalAct, act}
use Rattle.sva_model.specs.Acts.Act.{NewSpace, DropSpace, Map, Unmap, NewBinding, NewJob, Hold, LetGo, AtEndpoint}
use Rattle.sva_model.specs.Labels
use Rattle.sva_model.specs.Refusals.{Cause, refusals}
use Rattle.sva_model.specs.Replies.{maps_to, reply_maps, replies_success, newly_mapped, free_list, is_write_asked, job_space, response_to}
use Rattle.sva_model.specs.Outcomes.{Outcome, outcome, unbind_outcome, advance_outcome, pump_outcome, head_outcome, wait_outcome, send_outcome, may_pass}
use Rattle.sva_model.specs.Outcomes.{serve_outcome, file_outcome, reply_outcome, fault_outcome, subject_outcome, deliver_outcome, completion_outcome}
use Rattle.sva_model.specs.Outcomes.{keep_outcome, is_full, request_outcome, count_outcome, page_request_outcome, marker_outcome}
use Rattle.sva_model.specs.States.{Place, is_open, is_free_place, place, place_at, place_by, place_of_gone, answered}
use Rattle.sva_model.specs.States.Place.{Free, Mapped, Withheld}
use Rattle.sva_model.specs.Steps.{checked, decide, next, after_acts, world_after}
use Rattle.sva_model.specs.Claims.{IsWithheld}
use Rattle.sva_model.specs.Words.{all_below}
use Rattle.sva_labels.proofs.Words.{put-other, ℕ_cases}
use Rattle.sva_laws.proofs.Invariant.{Invariant}
use Rattle.sva_laws.proofs.Keeps.{Legal, act_keeps}
use Rattle.sva_laws.proofs.Passed.{LegalAll}
use Rattle.sva_laws.proofs.Runs.{always, step_legal}
use Rattle.sva_laws.proofs.Lookback.{moves, after_one}
use Rattle.sva_laws.proofs.Withheld.{is_withheld, place_withheld}

abbrev pub is_map : Act → Bool
is_map (Map s q f x) = true
is_map _ = false

abbrev pub no_maps : List Act → Bool
no_maps [] = true
no_maps (a ∷ acts) = if is_map a then false else no_maps acts

abbrev pub maps_first : List Act → Bool
maps_first [] = true
maps_first (a ∷ acts) = if is_map a then maps_first acts else no_maps acts

unbind_first : (e b : ℕ) (s : Stage) → maps_first (unbind_outcome e b s).acts ≡ true
unbind_first e b Lost = refl
unbind_first e b Unbound = refl
unbind_first e b Live = refl
unbind_first e b (Stopping m) = refl
unbind_first e b (Draining x) = refl
unbind_first e b (Invalidating k x) = refl
unbind_first e b Quiet = refl
unbind_first e b Released = refl

advance_first : (w : World) (e b : ℕ) (s : Stage) → maps_first (advance_outcome w e b s).acts ≡ true
advance_first w e b Lost = refl
advance_first w e b Unbound = refl
advance_first w e b Live = refl
advance_first w e b (Stopping m) = refl
advance_first w e b (Draining x) = refl
advance_first w e b (Invalidating k x) = refl
advance_first w e b Quiet = refl
advance_first w e b Released = refl

wait_first : (e k : ℕ) (t : Bool) → maps_first (wait_outcome e k t).acts ≡ true
wait_first e k true = refl
wait_first e k false = refl

send_first : (e k t : ℕ) (b : Bool) → maps_first (send_outcome e k t b).acts ≡ true
send_first e k t true = refl
send_first e k t false = refl

head_first : (p : Endpoint) (e k : ℕ) (o : Order) → maps_first (head_outcome p e k o).acts ≡ true
head_first p e k (Wait cookie drain) = wait_first e k (may_pass p drain)
head_first p e k (RangeOf b q) = send_first e k (Labels.lowest_label 32 p.at_itag) _
head_first p e k (PasidOf b) = send_first e k (Labels.lowest_label 32 p.at_itag) _

pump_first : (p : Endpoint) (e : ℕ) (b : Bool) → maps_first (pump_outcome p e b).acts ≡ true
pump_first p e true = refl
pump_first p e false = head_first p e (Labels.head p) (p.order (Labels.head p))

file_first : (e r g : ℕ) (b : Bool) → maps_first (file_outcome e r g b).acts ≡ true
file_first e r g true = refl
file_first e r g false = refl

serve_first : (p : Endpoint) (e : ℕ) (b : Bool) → maps_first (serve_outcome p e b).acts ≡ true
serve_first p e true = refl
serve_first p e false = file_first e (Labels.oldest_arrived p) (p.group_of (Labels.oldest_arrived p)) (p.is_last (Labels.oldest_arrived p))

maps_then : (s : ℕ) (write : ℕ → Bool) (qs fs : List ℕ) (rest : List Act) → maps_first rest ≡ true → maps_first (maps_to s write qs fs ++ rest) ≡ true
maps_then s write [] fs rest r = r
maps_then s write (q ∷ qs) [] rest r = r
maps_then s write (q ∷ qs) (f ∷ fs) rest r = maps_then s write qs fs rest r

reply_first : (w : World) (x j : ℕ) (v : Verdict) (o : Option Code) → maps_first (reply_outcome w x j (reply_maps w j v) o).acts ≡ true
reply_first w x j v None = refl
reply_first w x j v (Some code) = go (replies_success w j v)
  where
    go : (b : Bool) → maps_first ((if b then maps_to (job_space w j) (is_write_asked w j) (newly_mapped w j) (free_list w) else []) ++ LetGo x
        ∷ AtEndpoint (w.job j).endpoint (LocalAct.Respond (w.job j).group code) ∷ []) ≡ true
    go true = maps_then (job_space w j) (is_write_asked w j) (newly_mapped w j) (free_list w)
        (LetGo x ∷ AtEndpoint (w.job j).endpoint (LocalAct.Respond (w.job j).group code) ∷ []) refl
    go false = refl

fault_first : (p : Endpoint) (e t q : ℕ) (r x l : Bool) (o : Option ℕ) → maps_first (fault_outcome p e t q r x l o).acts ≡ true
fault_first p e t q r x l None = refl
fault_first p e t q r x l (Some k) = refl

keep_first : (e c r m : ℕ) (b : Bool) → maps_first (keep_outcome e c r m b).acts ≡ true
keep_first e c r m true = refl
keep_first e c r m false = refl

completion_first : (p : Endpoint) (e c r : ℕ) (o : Option ℕ) (s : RequestState) → maps_first (completion_outcome p e c r o s).acts ≡ true
completion_first p e c r (Some m) Out = keep_first e c r m (is_full p r)
completion_first p e c r None Out = refl
completion_first p e c r (Some m) Doomed = refl
completion_first p e c r None Doomed = refl
completion_first p e c r (Some m) Over = refl
completion_first p e c r None Over = refl

request_first : (w : World) (p : Endpoint) (e c r : ℕ) (b : Bool) → maps_first (request_outcome w p e c r b).acts ≡ true
request_first w p e c r true = refl
request_first w p e c r false = refl

count_first : (p : Endpoint) (e c : ℕ) (names : ℕ → Bool) (b : Bool) → maps_first (count_outcome p e c names b).acts ≡ true
count_first p e c names true = refl
count_first p e c names false = refl

page_request_first : (e c r : ℕ) (b : Bool) → maps_first (page_request_outcome e c r b).acts ≡ true
page_request_first e c r true = refl
page_request_first e c r false = refl

marker_first : (e c d : ℕ) (b : Bool) → maps_first (marker_outcome e c d b).acts ≡ true
marker_first e c d true = refl
marker_first e c d false = refl

subject_first : (w : World) (p : Endpoint) (e c : ℕ) (a : Subject) → maps_first (subject_outcome w p e c a).acts ≡ true
subject_first w p e c (StartOf b) = refl
subject_first w p e c (StopOf b) = refl
subject_first w p e c FunctionReset = refl
subject_first w p e c (CompletionOf r found) = completion_first p e c r found (p.request r)
subject_first w p e c (InvalidateOf k) = refl
subject_first w p e c (ResponseOf g code) = refl
subject_first w p e c (RequestOf r) = request_first w p e c r (is_open p.phase)
subject_first w p e c (InvalidatedOf names) = count_first p e c names (is_open p.phase)
subject_first w p e c (PageRequestOf r) = page_request_first e c r (is_open p.phase)
subject_first w p e c (MarkerOf b) = marker_first e c b (is_open p.phase)
subject_first w p e c ResetDone = refl

deliver_first : (w : World) (p : Endpoint) (e c : ℕ) (o : Option Subject) → maps_first (deliver_outcome w p e c o).acts ≡ true
deliver_first w p e c None = refl
deliver_first w p e c (Some a) = subject_first w p e c a

outcome_first : (w : World) (s : Step) → maps_first (outcome w s).acts ≡ true
outcome_first w step.Space = refl
outcome_first w (step.DropSpace n) = refl
outcome_first w (step.Map n q x) = refl
outcome_first w (step.Unmap n q count) = refl
outcome_first w (step.UnmapRange n q order) = refl
outcome_first w (step.Bind e n) = refl
outcome_first w (step.Unbind n) =
    unbind_first (w.endpoint_of (Labels.name w n)) (Labels.name w n) ((w.part (w.endpoint_of (Labels.name w n))).stage (Labels.name w n))
outcome_first w (step.Advance n) =
    advance_first w (w.endpoint_of (Labels.name w n)) (Labels.name w n) ((w.part (w.endpoint_of (Labels.name w n))).stage (Labels.name w n))
outcome_first w (step.Pump e) = pump_first (w.part e) e (Labels.is_queue_empty (w.part e))
outcome_first w (step.Serve e) = serve_first (w.part e) e (Labels.is_page_queue_empty (w.part e))
outcome_first w (step.Reset e) = refl
outcome_first w (step.Take x) = refl
outcome_first w (step.Reply x v) = reply_first w x (the (w.hand x)) v (response_to w (the (w.hand x)) v)
outcome_first w (step.Ask e t q) = refl
outcome_first w (step.BeginUse e t q x) = refl
outcome_first w (step.EndUse e u) = refl
outcome_first w (step.Evict e t q) = refl
outcome_first w (step.Fault e t q r x group l) = fault_first (w.part e) e t q r x l group
outcome_first w (step.Finish e vector count) = refl
outcome_first w (step.Quit e t) = refl
outcome_first w (step.Deliver n) =
    deliver_first w (w.part (w.link_of (Labels.name w n))) (w.link_of (Labels.name w n)) (Labels.name w n)
    ((w.part (w.link_of (Labels.name w n))).message (Labels.name w n))
outcome_first w (step.Look f) = refl
outcome_first w (step.Bearer t) = refl

checked_first : (cs : List Cause) (o : Outcome) → maps_first o.acts ≡ true → maps_first (checked cs o).acts ≡ true
checked_first [] o k = k
checked_first (c ∷ cs) o k = go c.0 (checked_first cs o k)
  where
    go : (b : Bool) → maps_first (checked cs o).acts ≡ true → maps_first (if b then record { reply = Err c.1; acts = [] } else checked cs o).acts ≡ true
    go true k = refl
    go false k = k

step_first : (w : World) (s : Step) → maps_first (decide w s).acts ≡ true
step_first w s = checked_first (refusals w s) (outcome w s) (outcome_first w s)

-- What is mapped was free.

latest_same : (w : World) (a : Act) (f : ℕ) → is_map a ≡ false → (act w a).mappings.latest f ≡ w.mappings.latest f
latest_same w NewSpace f h = refl
latest_same w (DropSpace s) f h = refl
latest_same w (Map s q g x) f h = absurd (cc)
latest_same w (Unmap s q count order) f h = refl
latest_same w (NewBinding e) f h = refl
latest_same w (NewJob e g) f h = refl
latest_same w (Hold x j) f h = refl
latest_same w (LetGo x) f h = refl
latest_same w (AtEndpoint e o) f h = refl

rest_same : (acts : List Act) (w : World) (f : ℕ) → no_maps acts ≡ true → (after_acts w acts).mappings.latest f ≡ w.mappings.latest f
rest_same [] w f h = refl
rest_same (a ∷ acts) w f h = go (is_map a) refl h (rest_same acts (act w a) f)
  where
    go : (b : Bool) → is_map a ≡ b → (if b then false else no_maps acts) ≡ true
        → (no_maps acts ≡ true → (after_acts (act w a) acts).mappings.latest f ≡ (act w a).mappings.latest f)
        → (after_acts (act w a) acts).mappings.latest f ≡ w.mappings.latest f
    go true e h k = absurd (cc)
    go false e h k = k h ∙ latest_same w a f e

place_other : (w : World) (s q f g : ℕ) (x : Bool) → Invariant w → g ≢ f → place (act w (Map s q f x)) g ≡ place w g
place_other w s q f g x i ne = go (w.mappings.latest g) refl
  where
    go : (o : Option ℕ) → w.mappings.latest g ≡ o → place (act w (Map s q f x)) g ≡ place w g
    go None e = ap (place_at (act w (Map s q f x))) (put-other w.mappings.latest f (Some w.mappings.made) g ne ∙ e) ∙ sym (ap (place_at w) e)
    go (Some m) e =
        let made = (i.mapped.named g m e).1 in
        let other : m ≢ w.mappings.made = omega arith in
        ap (place_at (act w (Map s q f x))) (put-other w.mappings.latest f (Some w.mappings.made) g ne ∙ e)
        ∙ ap (place_by (act w (Map s q f x))) (put-other w.mappings.state w.mappings.made Present m other)
        ∙ same_place (w.mappings.state m)
        ∙ sym (ap (place_at w) e)
      where
        same_place : (z : MappingState) → place_by (act w (Map s q f x)) z ≡ place_by w z
        same_place Unmade = refl
        same_place Present = refl
        same_place (Gone owed) = refl

is_free_is : (p : Place) → is_free_place p ≡ true → p ≡ Free
is_free_is Free h = refl
is_free_is Mapped h = absurd (cc)
is_free_is Withheld h = absurd (cc)

map_then : (w : World) (s q g : ℕ) (x : Bool) (f : ℕ) {v : Option ℕ} → Legal w (Map s q g x) → Invariant w → (f ≡ g) ⊎ (f ≢ g)
    → (v ≡ (act w (Map s q g x)).mappings.latest f) ⊎ (place (act w (Map s q g x)) f ≡ Free) → (v ≡ w.mappings.latest f) ⊎ (place w f ≡ Free)
map_then w s q g x f l i (inl e) old = inr (ap (place w) e ∙ is_free_is (place w g) l.2)
map_then w s q g x f l i (inr ne) (inl y) = inl (y ∙ put-other w.mappings.latest g (Some w.mappings.made) f ne)
map_then w s q g x f l i (inr ne) (inr y) = inr (sym (place_other w s q g f x i ne) ∙ y)

-- a frame's latest mapping stays, or the frame was free
maps_free : (acts : List Act) (w : World) (f : ℕ) → maps_first acts ≡ true → LegalAll w acts → Invariant w
    → ((after_acts w acts).mappings.latest f ≡ w.mappings.latest f) ⊎ (place w f ≡ Free)
maps_free [] w f h l i = inl refl
maps_free (Map s q g x ∷ acts) w f h l i =
    map_then w s q g x f l.0 i (ℕ_cases f g) (maps_free acts (act w (Map s q g x)) f h l.1 (act_keeps w (Map s q g x) l.0 i))
maps_free (NewSpace ∷ acts) w f h l i = inl (rest_same (NewSpace ∷ acts) w f h)
maps_free (DropSpace s ∷ acts) w f h l i = inl (rest_same (DropSpace s ∷ acts) w f h)
maps_free (Unmap s q count order ∷ acts) w f h l i = inl (rest_same (Unmap s q count order ∷ acts) w f h)
maps_free (NewBinding e ∷ acts) w f h l i = inl (rest_same (NewBinding e ∷ acts) w f h)
maps_free (NewJob e g ∷ acts) w f h l i = inl (rest_same (NewJob e g ∷ acts) w f h)
maps_free (Hold x j ∷ acts) w f h l i = inl (rest_same (Hold x j ∷ acts) w f h)
maps_free (LetGo x ∷ acts) w f h l i = inl (rest_same (LetGo x ∷ acts) w f h)
maps_free (AtEndpoint e o ∷ acts) w f h l i = inl (rest_same (AtEndpoint e o ∷ acts) w f h)

step_free : (w : World) (s : Step) (f : ℕ) → Invariant w → ((next w s).mappings.latest f ≡ w.mappings.latest f) ⊎ (place w f ≡ Free)
step_free w s f i = maps_free (decide w s).acts w f (step_first w s) (step_legal w s i) i

-- A withheld frame is withheld or free after one more step.

gone_place : (w : World) (f m : ℕ) (owed : ℕ → Owed) → w.mappings.latest f ≡ Some m → w.mappings.state m ≡ Gone owed → (place w f ≡ Free)
    ⊎ (place w f ≡ Withheld)
gone_place w f m owed la g = go (all_below w.config.endpoints (λ e. answered (w.part e) (owed e))) refl
  where
    go : (b : Bool) → all_below w.config.endpoints (λ e. answered (w.part e) (owed e)) ≡ b → (place w f ≡ Free) ⊎ (place w f ≡ Withheld)
    go true h = inl (ap (place_at w) la ∙ ap (place_by w) g ∙ ap place_of_gone h)
    go false h = inr (ap (place_at w) la ∙ ap (place_by w) g ∙ ap place_of_gone h)

withheld_gone : (w : World) (f : ℕ) → place w f ≡ Withheld → (m : ℕ) × (owed : ℕ → Owed) × (w.mappings.latest f ≡ Some m) × (w.mappings.state m ≡ Gone owed)
withheld_gone w f h = go (w.mappings.latest f) refl h
  where
    go : (o : Option ℕ) → w.mappings.latest f ≡ o → place_at w o ≡ Withheld → (m : ℕ) × (owed : ℕ → Owed) × (w.mappings.latest f ≡ Some m)
        × (w.mappings.state m ≡ Gone owed)
    go None e h = absurd (cc)
    go (Some m) e h = by (w.mappings.state m) refl h
      where
        by : (z : MappingState) → w.mappings.state m ≡ z → place_by w z ≡ Withheld → (k : ℕ) × (owed : ℕ → Owed) × (w.mappings.latest f ≡ Some k)
            × (w.mappings.state k ≡ Gone owed)
        by Unmade g h = absurd (cc)
        by Present g h = absurd (cc)
        by (Gone owed) g h = (m, owed, e, g)

pub next_place : (w : World) (s : Step) (f : ℕ) → Invariant w → place w f ≡ Withheld → (place (next w s) f ≡ Free) ⊎ (place (next w s) f ≡ Withheld)
next_place w s f i h = go (step_free w s f i) (withheld_gone w f h)
  where
    go : ((next w s).mappings.latest f ≡ w.mappings.latest f) ⊎ (place w f ≡ Free) → (m : ℕ) × (owed : ℕ → Owed) × (w.mappings.latest f ≡ Some m)
        × (w.mappings.state m ≡ Gone owed) → (place (next w s) f ≡ Free) ⊎ (place (next w s) f ≡ Withheld)
    go (inr x) y = absurd (cc)
    go (inl x) y = gone_place (next w s) f y.0 y.1 (x ∙ y.2) ((moves w s i).gone_on y.0 y.1 y.3)

pub free_by : (rule : PasidRule) (c : Config) (steps : List Step) (step : Step) (f : ℕ) → IsWithheld rule c steps f
    → (IsWithheld rule c (steps ++ step ∷ []) f → ⊥) → place (world_after rule c (steps ++ step ∷ [])) f ≡ Free
free_by rule c steps step f was not_now = go (next_place (world_after rule c steps) step f (always rule c steps) (place_withheld rule c steps f was))
  where
    go : (place (next (world_after rule c steps) step) f ≡ Free) ⊎ (place (next (world_after rule c steps) step) f ≡ Withheld)
        → place (world_after rule c (steps ++ step ∷ [])) f ≡ Free
    go (inl x) = ap (λ w. place w f) (after_one rule c steps step) ∙ x
    go (inr x) = absurd (not_now (is_withheld rule c (steps ++ step ∷ []) f (ap (λ w. place w f) (after_one rule c steps step) ∙ x)))
