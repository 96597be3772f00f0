-- What a step does to mappings: all steps but an unmapping and the drop of a space only add to them.
use Rattle.std.proofs.Common.{◌≡◌, ◌≢◌, ◌⊎◌, inl, inr, refl, ap, sym, subst, ◌∙◌, ℕ, ◌≤◌, Bool, true, false, arith}
use Rattle.std.specs.Prelude.{Option, Some, None, List, [], ◌∷◌, ◌++◌, if◌then◌else◌, Err}
use Rattle.sva_step.specs.declared.steps.Step.{Step}
use Rattle.sva_step.specs.declared.steps.Step.TheVariants as step
use Rattle.sva_step.specs.declared.steps.Verdict.{Verdict}
use Rattle.sva_model.specs.Words.{put, the}
use Rattle.sva_model.specs.Message.{Code}
use Rattle.sva_model.specs.State.{Owed, MappingState, Endpoint, World, Stage, Order, Subject, RequestState}
use Rattle.sva_model.specs.State.MappingState.{Unmade, Present, Gone}
use Rattle.sva_model.specs.State.Stage.{Unbound, Live, Stopping, Draining, Invalidating, Quiet, Lost, Released}
use Rattle.sva_model.specs.State.Order.{RangeOf, PasidOf, Wait}
use Rattle.sva_model.specs.State.RequestState.{Out, Doomed, Over}
use Rattle.sva_model.specs.State.Subject.{StartOf, StopOf, FunctionReset, CompletionOf, InvalidateOf, ResponseOf, RequestOf, InvalidatedOf, PageRequestOf}
use Rattle.sva_model.specs.State.Subject.{MarkerOf, ResetDone}
use Rattle.sva_model.specs.Acts.{Act, LocalAct, act}
use Rattle.sva_model.specs.Acts.Act.{NewSpace, DropSpace, Map, Unmap, NewBinding, NewJob, Hold, LetGo, AtEndpoint}
use Rattle.sva_model.specs.Labels
use Rattle.sva_model.specs.Refusals.{Cause, refusals}
use Rattle.sva_model.specs.Replies.{maps_to, reply_maps, replies_success, newly_mapped, free_list, is_write_asked, job_space, response_to}
use Rattle.sva_model.specs.Outcomes.{Outcome, outcome, unbind_outcome, advance_outcome, pump_outcome, head_outcome, wait_outcome, send_outcome, may_pass}
use Rattle.sva_model.specs.Outcomes.{serve_outcome, file_outcome, reply_outcome, fault_outcome, subject_outcome, deliver_outcome, completion_outcome}
use Rattle.sva_model.specs.Outcomes.{keep_outcome, is_full, request_outcome, count_outcome, page_request_outcome, marker_outcome}
use Rattle.sva_model.specs.States.{is_open}
use Rattle.sva_model.specs.Steps.{checked, decide, after_acts}
use Rattle.sva_labels.proofs.Words.{put-same, put-other, ℕ_cases}
use Rattle.sva_laws.proofs.Invariant.{Invariant}
use Rattle.sva_laws.proofs.Keeps.{act_keeps}
use Rattle.sva_laws.proofs.Passed.{LegalAll}

abbrev pub IsAdding : Act → Type 0
IsAdding (DropSpace s) = ⊥
IsAdding (Unmap s q count order) = ⊥
IsAdding _ = Unit {0}

abbrev pub AreAdding : List Act → Type 0
AreAdding [] = Unit {0}
AreAdding (a ∷ acts) = IsAdding a × AreAdding acts

-- from one world to a later one mappings are only added
pub record Adds (w v : World) : Type 0 where
  pub gone_back : (m : ℕ) (owed : ℕ → Owed) → v.mappings.state m ≡ Gone owed → w.mappings.state m ≡ Gone owed
  pub gone_on : (m : ℕ) (owed : ℕ → Owed) → w.mappings.state m ≡ Gone owed → v.mappings.state m ≡ Gone owed
  pub present_on : (m : ℕ) → w.mappings.state m ≡ Present → v.mappings.state m ≡ Present
  pub frame_on : (m : ℕ) → w.mappings.state m ≢ Unmade → v.mappings.frame m ≡ w.mappings.frame m
  pub latest_grows : (f k : ℕ) → w.mappings.latest f ≡ Some k → (z : ℕ) × (v.mappings.latest f ≡ Some z) × (k ≤ z)
  pub latest_new : (f : ℕ) → (v.mappings.latest f ≡ w.mappings.latest f) ⊎ ((z : ℕ) × (v.mappings.latest f ≡ Some z) × (v.mappings.state z ≡ Present))

adds_nothing : (w v : World) → w.mappings ≡ v.mappings → Adds w v
adds_nothing w v e =
    record {
      gone_back = λ m o h. ap (λ x. x.state m) e ∙ h;
      gone_on = λ m o h. sym (ap (λ x. x.state m) e) ∙ h;
      present_on = λ m h. sym (ap (λ x. x.state m) e) ∙ h;
      frame_on = λ m h. sym (ap (λ x. x.frame m) e);
      latest_grows = λ f k h. (k, sym (ap (λ x. x.latest f) e) ∙ h, omega arith);
      latest_new = λ f. inl (sym (ap (λ x. x.latest f) e));
    }

adds_map : (w : World) (s q f : ℕ) (x : Bool) → Invariant w → Adds w (act w (Map s q f x))
adds_map w s q f x i =
    record {
      gone_back = λ m o h. back m o (ℕ_cases m w.mappings.made) h;
      gone_on = λ m o h. put-other w.mappings.state w.mappings.made Present m (old_gone m o h) ∙ h;
      present_on = λ m h. put-other w.mappings.state w.mappings.made Present m (old_present m h) ∙ h;
      frame_on = λ m h. put-other w.mappings.frame w.mappings.made f m (old_made m h);
      latest_grows = λ g k h. grows g k (ℕ_cases g f) h;
      latest_new = λ g. new g (ℕ_cases g f);
    }
  where
    old_gone : (m : ℕ) (o : ℕ → Owed) → w.mappings.state m ≡ Gone o → m ≢ w.mappings.made
    old_gone m o h e = grind (arith, i.mapped.unmade m)

    old_made : (m : ℕ) → w.mappings.state m ≢ Unmade → m ≢ w.mappings.made
    old_made m h e = h (i.mapped.unmade m (omega arith))

    old_present : (m : ℕ) → w.mappings.state m ≡ Present → m ≢ w.mappings.made
    old_present m h e = grind (arith, i.mapped.unmade m)

    back : (m : ℕ) (o : ℕ → Owed) → (m ≡ w.mappings.made) ⊎ (m ≢ w.mappings.made) → put w.mappings.state w.mappings.made Present m ≡ Gone o
        → w.mappings.state m ≡ Gone o
    back m o (inl e) h =
        absurd (cc (sym (subst (λ z. put w.mappings.state w.mappings.made Present z ≡ Present) (sym e)
        (put-same w.mappings.state w.mappings.made Present)) ∙ h))
    back m o (inr ne) h = sym (put-other w.mappings.state w.mappings.made Present m ne) ∙ h

    made_latest : (g : ℕ) → g ≡ f → put w.mappings.latest f (Some w.mappings.made) g ≡ Some w.mappings.made
    made_latest g e = subst (λ z. put w.mappings.latest f (Some w.mappings.made) z ≡ Some w.mappings.made) (sym e)
        (put-same w.mappings.latest f (Some w.mappings.made))

    grows : (g k : ℕ) → (g ≡ f) ⊎ (g ≢ f) → w.mappings.latest g ≡ Some k → (z : ℕ) × (put w.mappings.latest f (Some w.mappings.made) g ≡ Some z) × (k ≤ z)
    grows g k (inl e) h = let n = i.mapped.named g k h in (w.mappings.made, made_latest g e, omega (arith, n.1))
    grows g k (inr ne) h = (k, put-other w.mappings.latest f (Some w.mappings.made) g ne ∙ h, omega arith)

    new : (g : ℕ) → (g ≡ f) ⊎ (g ≢ f) → (put w.mappings.latest f (Some w.mappings.made) g ≡ w.mappings.latest g)
        ⊎ ((z : ℕ) × (put w.mappings.latest f (Some w.mappings.made) g ≡ Some z) × (put w.mappings.state w.mappings.made Present z ≡ Present))
    new g (inl e) = inr (w.mappings.made, made_latest g e, put-same w.mappings.state w.mappings.made Present)
    new g (inr ne) = inl (put-other w.mappings.latest f (Some w.mappings.made) g ne)

act_adds : (w : World) (a : Act) → IsAdding a → Invariant w → Adds w (act w a)
act_adds w NewSpace a i = adds_nothing w (act w NewSpace) refl
act_adds w (DropSpace s) a i = absurd a
act_adds w (Map s q f x) a i = adds_map w s q f x i
act_adds w (Unmap s q count order) a i = absurd a
act_adds w (NewBinding e) a i = adds_nothing w (act w (NewBinding e)) refl
act_adds w (NewJob e g) a i = adds_nothing w (act w (NewJob e g)) refl
act_adds w (Hold x j) a i = adds_nothing w (act w (Hold x j)) refl
act_adds w (LetGo x) a i = adds_nothing w (act w (LetGo x)) refl
act_adds w (AtEndpoint e o) a i = adds_nothing w (act w (AtEndpoint e o)) refl

adds_more : (u v w : World) → Adds u v → Adds v w → Adds u w
adds_more u v w a b =
    record {
      gone_back = λ m o h. a.gone_back m o (b.gone_back m o h);
      gone_on = λ m o h. b.gone_on m o (a.gone_on m o h);
      present_on = λ m h. b.present_on m (a.present_on m h);
      frame_on = λ m h. b.frame_on m (still m h) ∙ a.frame_on m h;
      latest_grows = λ f k h. let x = a.latest_grows f k h in let y = b.latest_grows f x.0 x.1 in (y.0, y.1, omega (arith, x.2, y.2));
      latest_new = λ f. new f (a.latest_new f) (b.latest_new f);
    }
  where
    still : (m : ℕ) → u.mappings.state m ≢ Unmade → v.mappings.state m ≢ Unmade
    still m h e = go (u.mappings.state m) refl
      where
        go : (z : MappingState) → u.mappings.state m ≡ z → ⊥
        go Unmade g = h g
        go Present g = absurd (cc (sym (a.present_on m g) ∙ e))
        go (Gone o) g = absurd (cc (sym (a.gone_on m o g) ∙ e))

    new : (f : ℕ) → (v.mappings.latest f ≡ u.mappings.latest f) ⊎ ((z : ℕ) × (v.mappings.latest f ≡ Some z) × (v.mappings.state z ≡ Present))
        → (w.mappings.latest f ≡ v.mappings.latest f) ⊎ ((z : ℕ) × (w.mappings.latest f ≡ Some z) × (w.mappings.state z ≡ Present))
        → (w.mappings.latest f ≡ u.mappings.latest f) ⊎ ((z : ℕ) × (w.mappings.latest f ≡ Some z) × (w.mappings.state z ≡ Present))
    new f (inl x) (inl y) = inl (y ∙ x)
    new f (inr x) (inl y) = inr (x.0, y ∙ x.1, b.present_on x.0 x.2)
    new f x (inr y) = inr y

pub acts_add : (acts : List Act) (w : World) → AreAdding acts → LegalAll w acts → Invariant w → Adds w (after_acts w acts)
acts_add [] w a l i = adds_nothing w w refl
acts_add (x ∷ acts) w a l i = adds_more w (act w x) (after_acts (act w x) acts) (act_adds w x a.0 i) (acts_add acts (act w x) a.1 l.1 (act_keeps w x l.0 i))

-- The acts of a step: they only add, or are one unmapping, or the drop of a space.
pub data Kind (acts : List Act) : Type 0 where
  adding : AreAdding acts → Kind acts
  unmapping : (s q count order : ℕ) → acts ≡ Unmap s q count order ∷ [] → Kind acts
  dropping : (s : ℕ) → acts ≡ DropSpace s ∷ [] → Kind acts

pub unbind_adds : (e b : ℕ) (s : Stage) → AreAdding (unbind_outcome e b s).acts
unbind_adds e b Lost = (tt, tt)
unbind_adds e b Unbound = (tt, tt)
unbind_adds e b Live = (tt, tt)
unbind_adds e b (Stopping m) = (tt, tt)
unbind_adds e b (Draining x) = (tt, tt)
unbind_adds e b (Invalidating k x) = (tt, tt)
unbind_adds e b Quiet = (tt, tt)
unbind_adds e b Released = (tt, tt)

pub advance_adds : (w : World) (e b : ℕ) (s : Stage) → AreAdding (advance_outcome w e b s).acts
advance_adds w e b Lost = (tt, tt)
advance_adds w e b Unbound = (tt, tt)
advance_adds w e b Live = (tt, tt)
advance_adds w e b (Stopping m) = (tt, tt)
advance_adds w e b (Draining x) = (tt, tt)
advance_adds w e b (Invalidating k x) = (tt, tt)
advance_adds w e b Quiet = (tt, tt)
advance_adds w e b Released = (tt, tt)

wait_adds : (e k : ℕ) (t : Bool) → AreAdding (wait_outcome e k t).acts
wait_adds e k true = (tt, tt)
wait_adds e k false = tt

send_adds : (e k t : ℕ) (b : Bool) → AreAdding (send_outcome e k t b).acts
send_adds e k t true = (tt, tt)
send_adds e k t false = tt

head_adds : (p : Endpoint) (e k : ℕ) (o : Order) → AreAdding (head_outcome p e k o).acts
head_adds p e k (Wait cookie drain) = wait_adds e k (may_pass p drain)
head_adds p e k (RangeOf b q) = send_adds e k (Labels.lowest_label 32 p.at_itag) _
head_adds p e k (PasidOf b) = send_adds e k (Labels.lowest_label 32 p.at_itag) _

pub pump_adds : (p : Endpoint) (e : ℕ) (b : Bool) → AreAdding (pump_outcome p e b).acts
pump_adds p e true = tt
pump_adds p e false = head_adds p e (Labels.head p) (p.order (Labels.head p))

file_adds : (e r g : ℕ) (b : Bool) → AreAdding (file_outcome e r g b).acts
file_adds e r g true = (tt, (tt, tt))
file_adds e r g false = (tt, tt)

pub serve_adds : (p : Endpoint) (e : ℕ) (b : Bool) → AreAdding (serve_outcome p e b).acts
serve_adds p e true = tt
serve_adds p e false = file_adds e (Labels.oldest_arrived p) (p.group_of (Labels.oldest_arrived p)) (p.is_last (Labels.oldest_arrived p))

maps_add : (s : ℕ) (write : ℕ → Bool) (qs fs : List ℕ) (rest : List Act) → AreAdding rest → AreAdding (maps_to s write qs fs ++ rest)
maps_add s write [] fs rest r = r
maps_add s write (q ∷ qs) [] rest r = r
maps_add s write (q ∷ qs) (f ∷ fs) rest r = (tt, maps_add s write qs fs rest r)

pub reply_adds : (w : World) (x j : ℕ) (v : Verdict) (o : Option Code) → AreAdding (reply_outcome w x j (reply_maps w j v) o).acts
reply_adds w x j v None = (tt, (tt, tt))
reply_adds w x j v (Some code) = go (replies_success w j v)
  where
    go : (b : Bool) → AreAdding ((if b then maps_to (job_space w j) (is_write_asked w j) (newly_mapped w j) (free_list w) else []) ++ LetGo x
        ∷ AtEndpoint (w.job j).endpoint (LocalAct.Respond (w.job j).group code) ∷ [])
    go true = maps_add (job_space w j) (is_write_asked w j) (newly_mapped w j) (free_list w)
        (LetGo x ∷ AtEndpoint (w.job j).endpoint (LocalAct.Respond (w.job j).group code) ∷ []) (tt, (tt, tt))
    go false = (tt, (tt, tt))

pub fault_adds : (p : Endpoint) (e t q : ℕ) (r x l : Bool) (o : Option ℕ) → AreAdding (fault_outcome p e t q r x l o).acts
fault_adds p e t q r x l None = (tt, tt)
fault_adds p e t q r x l (Some k) = (tt, tt)

keep_adds : (e c r m : ℕ) (b : Bool) → AreAdding (keep_outcome e c r m b).acts
keep_adds e c r m true = (tt, tt)
keep_adds e c r m false = (tt, tt)

completion_adds : (p : Endpoint) (e c r : ℕ) (o : Option ℕ) (s : RequestState) → AreAdding (completion_outcome p e c r o s).acts
completion_adds p e c r (Some m) Out = keep_adds e c r m (is_full p r)
completion_adds p e c r None Out = (tt, tt)
completion_adds p e c r (Some m) Doomed = (tt, tt)
completion_adds p e c r None Doomed = (tt, tt)
completion_adds p e c r (Some m) Over = (tt, tt)
completion_adds p e c r None Over = (tt, tt)

request_adds : (w : World) (p : Endpoint) (e c r : ℕ) (b : Bool) → AreAdding (request_outcome w p e c r b).acts
request_adds w p e c r true = (tt, tt)
request_adds w p e c r false = (tt, tt)

count_adds : (p : Endpoint) (e c : ℕ) (names : ℕ → Bool) (b : Bool) → AreAdding (count_outcome p e c names b).acts
count_adds p e c names true = (tt, tt)
count_adds p e c names false = (tt, tt)

page_request_adds : (e c r : ℕ) (b : Bool) → AreAdding (page_request_outcome e c r b).acts
page_request_adds e c r true = (tt, tt)
page_request_adds e c r false = (tt, tt)

marker_adds : (e c d : ℕ) (b : Bool) → AreAdding (marker_outcome e c d b).acts
marker_adds e c d true = (tt, tt)
marker_adds e c d false = (tt, tt)

subject_adds : (w : World) (p : Endpoint) (e c : ℕ) (a : Subject) → AreAdding (subject_outcome w p e c a).acts
subject_adds w p e c (StartOf b) = (tt, tt)
subject_adds w p e c (StopOf b) = (tt, tt)
subject_adds w p e c FunctionReset = (tt, tt)
subject_adds w p e c (CompletionOf r found) = completion_adds p e c r found (p.request r)
subject_adds w p e c (InvalidateOf k) = (tt, tt)
subject_adds w p e c (ResponseOf g code) = (tt, tt)
subject_adds w p e c (RequestOf r) = request_adds w p e c r (is_open p.phase)
subject_adds w p e c (InvalidatedOf names) = count_adds p e c names (is_open p.phase)
subject_adds w p e c (PageRequestOf r) = page_request_adds e c r (is_open p.phase)
subject_adds w p e c (MarkerOf b) = marker_adds e c b (is_open p.phase)
subject_adds w p e c ResetDone = (tt, tt)

pub deliver_adds : (w : World) (p : Endpoint) (e c : ℕ) (o : Option Subject) → AreAdding (deliver_outcome w p e c o).acts
deliver_adds w p e c None = tt
deliver_adds w p e c (Some a) = subject_adds w p e c a

outcome_kind : (w : World) (s : Step) → Kind (outcome w s).acts
outcome_kind w step.Space = adding (tt, tt)
outcome_kind w (step.DropSpace n) = dropping (Labels.name w n) refl
outcome_kind w (step.Map n q x) = adding (tt, tt)
outcome_kind w (step.Unmap n q count) = unmapping (Labels.name w n) q count 0 refl
outcome_kind w (step.UnmapRange n q order) = unmapping (Labels.name w n) q 1 order refl
outcome_kind w (step.Bind e n) = adding (tt, (tt, tt))
outcome_kind w (step.Unbind n) =
    adding (unbind_adds (w.endpoint_of (Labels.name w n)) (Labels.name w n) ((w.part (w.endpoint_of (Labels.name w n))).stage (Labels.name w n)))
outcome_kind w (step.Advance n) =
    adding (advance_adds w (w.endpoint_of (Labels.name w n)) (Labels.name w n) ((w.part (w.endpoint_of (Labels.name w n))).stage (Labels.name w n)))
outcome_kind w (step.Pump e) = adding (pump_adds (w.part e) e (Labels.is_queue_empty (w.part e)))
outcome_kind w (step.Serve e) = adding (serve_adds (w.part e) e (Labels.is_page_queue_empty (w.part e)))
outcome_kind w (step.Reset e) = adding (tt, tt)
outcome_kind w (step.Take x) = adding (tt, (tt, tt))
outcome_kind w (step.Reply x v) = adding (reply_adds w x (the (w.hand x)) v (response_to w (the (w.hand x)) v))
outcome_kind w (step.Ask e t q) = adding (tt, tt)
outcome_kind w (step.BeginUse e t q x) = adding (tt, tt)
outcome_kind w (step.EndUse e u) = adding (tt, tt)
outcome_kind w (step.Evict e t q) = adding (tt, tt)
outcome_kind w (step.Fault e t q r x group l) = adding (fault_adds (w.part e) e t q r x l group)
outcome_kind w (step.Finish e vector count) = adding (tt, tt)
outcome_kind w (step.Quit e t) = adding (tt, tt)
outcome_kind w (step.Deliver n) =
    adding (deliver_adds w (w.part (w.link_of (Labels.name w n))) (w.link_of (Labels.name w n)) (Labels.name w n)
    ((w.part (w.link_of (Labels.name w n))).message (Labels.name w n)))
outcome_kind w (step.Look f) = adding tt
outcome_kind w (step.Bearer t) = adding tt

checked_kind : (cs : List Cause) (o : Outcome) → Kind o.acts → Kind (checked cs o).acts
checked_kind [] o k = k
checked_kind (c ∷ cs) o k = go c.0 (checked_kind cs o k)
  where
    go : (b : Bool) → Kind (checked cs o).acts → Kind (if b then record { reply = Err c.1; acts = [] } else checked cs o).acts
    go true k = adding tt
    go false k = k

pub step_kind : (w : World) (s : Step) → Kind (decide w s).acts
step_kind w s = checked_kind (refusals w s) (outcome w s) (outcome_kind w s)
