-- Each act keeps what holds of the world.
use Rattle.std.proofs.Common.{◌≡◌, ◌≢◌, ◌⊎◌, inl, inr, refl, ap, sym, subst, ◌∙◌, ℕ, suc, ◌+◌, ◌*◌, ◌^◌, ◌<◌, ◌≤◌, Bool, true, false, arith}
use Rattle.std.specs.Prelude.{Option, Some, None, ◌&&◌, ◌==◌}
use Rattle.std.proofs.lemmas.Bool.Decides.{nat_tests}
use Rattle.sva_model.specs.Words.{put, unless, all_below}
use Rattle.sva_model.specs.State.{Owed, MappingState, Mappings, Endpoint, JobName, World}
use Rattle.sva_model.specs.State.Owed.{Nothing}
use Rattle.sva_model.specs.State.PasidRule.{PerSpace}
use Rattle.sva_model.specs.State.MappingState.{Unmade, Present, Gone}
use Rattle.sva_model.specs.State.PageRequestState.{Arrived}
use Rattle.sva_model.specs.State.HostGroupState.{InHand}
use Rattle.sva_model.specs.State.RequestState.{Out}
use Rattle.sva_model.specs.State.Phase.{Open}
use Rattle.sva_model.specs.States.{is_unreleased, is_outstanding, is_open, is_before_invalidating, answered, is_free, place_at, place_by, place_of_gone}
use Rattle.sva_model.specs.States.{is_free_place}
use Rattle.sva_model.specs.Unmappings.{bound, submits, submits_at, owed_by, part_after_unmap, submitted, submitted_if, cookie_of, gone_if, in_range}
use Rattle.sva_model.specs.Unmappings.{without_pages}
use Rattle.sva_model.specs.Acts.{Act, LocalAct, act, act_alone, sends}
use Rattle.sva_model.specs.Acts.Act.{NewSpace, DropSpace, Map, Unmap, NewBinding, NewJob, Hold, LetGo, AtEndpoint}
use Rattle.sva_model.specs.State.Stage.{Unbound}
use Rattle.sva_labels.proofs.Words.{put-same, put-other, ℕ_cases, all_below-true, was_true}
use Rattle.sva_laws.proofs.Legal.{LegalLocalAct}
use Rattle.sva_laws.proofs.Resets
use Rattle.sva_laws.proofs.Bounds
use Rattle.sva_laws.proofs.Bindings
use Rattle.sva_laws.proofs.Requests
use Rattle.sva_laws.proofs.Orders
use Rattle.sva_laws.proofs.Owners
use Rattle.sva_laws.proofs.Safe
use Rattle.sva_laws.proofs.PageRequests
use Rattle.sva_laws.proofs.Groups
use Rattle.sva_laws.proofs.Invariant.{PartInvariant, Mapped, Hands, IsHeldBy, Invariant, act_alone_keeps, leads, presents}
use Rattle.sva_laws.proofs.Answered.{answered_own, answered_submitted}
use Rattle.sva_laws.proofs.Submitted
use Rattle.sva_laws.proofs.Shared.{Shared, IsOf, WasSo, IsNew, binds, bound_space, bound_pasid, own_from, submitted_from, shared_still, shared_more}
use Rattle.sva_laws.proofs.Resets.{open_is}
use Rattle.sva_laws.proofs.Unmap as Unmapping
use Rattle.sva_laws.proofs.Orders.{active_unreleased}

-- a space is bound while it is live, at the binding's own endpoint, where PASIDs are one for each space under one that is
-- the space's; and a wait that an advance submits has the next cookie
abbrev pub SuitsWorld : World → (e : ℕ) → LocalAct → Type 0
SuitsWorld w e (LocalAct.Bind b s t) = (w.is_live s ≡ true) × (w.rule ≡ PerSpace → IsOf w.part s t) × (w.endpoint_of b ≡ e)
SuitsWorld w e (LocalAct.Drain b cookie) = cookie ≡ w.cookies
SuitsWorld w e (LocalAct.Invalidate b cookie) = cookie ≡ w.cookies
SuitsWorld w e _ = Unit {0}

-- a job is answered once it is out of the worker's hand
abbrev pub LetsGo : World → (e : ℕ) → LocalAct → Type 0
LetsGo w e (LocalAct.Respond g code) = (x j : ℕ) → w.hand x ≡ Some j → (w.job j).endpoint ≡ e → (w.job j).group ≢ g
LetsGo w e (LocalAct.Discard g) = (x j : ℕ) → w.hand x ≡ Some j → (w.job j).endpoint ≡ e → (w.job j).group ≢ g
LetsGo w e _ = Unit {0}

-- what a step has tested when an act is done
abbrev pub Legal : World → Act → Type 0
Legal w NewSpace = Unit {0}
Legal w (DropSpace s) = (e b : ℕ) → is_unreleased ((w.part e).stage b) ≡ true → (w.part e).space b ≢ s
Legal w (Map s q f x) = (w.is_live s ≡ true) × (w.mappings.at s q ≡ None) × (is_free w f ≡ true) × (f < w.config.frames)
Legal w (Unmap s q count order) = 0 < count
Legal w (NewBinding e) = Unit {0}
Legal w (NewJob e g) = Unit {0}
Legal w (Hold x j) = (j < w.jobs) × ((w.part (w.job j).endpoint).host_group (w.job j).group ≡ InHand x)
Legal w (LetGo x) = Unit {0}
Legal w (AtEndpoint e o) = (e < w.config.endpoints) × (LegalLocalAct w.mappings w.bindings (w.part e) o × SuitsWorld w e o) × LetsGo w e o

-- a table with one row replaced keeps what the old row and the new one have
pub put_keeps : {A : Type 0} (P : ℕ → A → Type 0) (f : ℕ → A) (i : ℕ) (v : A) → P i v → ((k : ℕ) → P k (f k)) → (k : ℕ) → P k (put f i v k)
put_keeps P f i v new old k = go (ℕ_cases k i)
  where
    go : (k ≡ i) ⊎ (k ≢ i) → P k (put f i v k)
    go (inl e) = subst (λ z. P z (put f i v z)) (sym e) (subst (P i) (sym (put-same f i v)) new)
    go (inr ne) = subst (P k) (sym (put-other f i v k ne)) (old k)

-- a part that an act of another endpoint leaves: more bindings and messages may be there
bounds_more : (g h : ℕ) (p : Endpoint) → g ≤ h → Bounds.Bounds g p → Bounds.Bounds h p
bounds_more g h p a bo =
    record {
      stage = λ b k. bo.stage b (omega arith);
      request = bo.request;
      held = bo.held;
      use_state = bo.use_state;
      group = bo.group;
      host_group = bo.host_group;
      responses = bo.responses;
      page_request = bo.page_request;
      group_of = bo.group_of;
      order_state = bo.order_state;
      noted = bo.noted;
      asked = bo.asked;
      answered = bo.answered;
      sent = bo.sent;
      requested = bo.requested;
      responded = bo.responded;
    }

resets_more : (n m : ℕ) (p : Endpoint) → n ≤ m → Resets.Resets n p → Resets.Resets m p
resets_more n m p a re =
    record {
      unsent = λ c k. re.unsent c (omega arith);
      down = re.down;
      up = re.up;
      ordered = re.ordered;
      cleared = re.cleared;
      start_before = re.start_before;
      stop_before = re.stop_before;
      invalidate_before = re.invalidate_before;
      response_before = re.response_before;
      older = re.older;
      no_start = re.no_start;
      no_stop = re.no_stop;
      no_invalidate = re.no_invalidate;
      no_response = re.no_response;
      off = re.off;
      empty = re.empty;
      over = re.over;
      dead = re.dead;
      finished = re.finished;
      untaken = re.untaken;
      enabled = re.enabled;
      lapsed = re.lapsed;
      unqueued = re.unqueued;
      unarrived = re.unarrived;
      unfiled = re.unfiled;
    }

later : (ms : Mappings) (x g h n m e : ℕ) (p : Endpoint) → g ≤ h → n ≤ m → PartInvariant ms x g n e p → PartInvariant ms x h m e p
later ms x g h n m e p a b i =
    record {
      there = i.there;
      near = i.near;
      resets = resets_more n m p b i.resets;
      bounds = bounds_more g h p a i.bounds;
      bindings = i.bindings;
      labels = i.labels;
      requests = i.requests;
      orders = i.orders;
      owners = i.owners;
      safe = i.safe;
      queued = i.queued;
      lasts = i.lasts;
      groups = i.groups;
    }

bound_live_own : (w : World) (e : ℕ) (o : LocalAct) → LegalLocalAct w.mappings w.bindings (w.part e) o → SuitsWorld w e o → (b : ℕ)
    → (is_unreleased ((w.part e).stage b) ≡ true → w.is_live ((w.part e).space b) ≡ true) → is_unreleased ((act_alone (w.part e) w.messages o).stage b)
    ≡ true → w.is_live ((act_alone (w.part e) w.messages o).space b) ≡ true
bound_live_own w e o l bs b old h = go o bs (own_from w.mappings w.bindings w.messages (w.part e) o l b h)
  where
    go : (x : LocalAct) → SuitsWorld w e x → WasSo (w.part e) (act_alone (w.part e) w.messages o) b ⊎ IsNew x (act_alone (w.part e) w.messages o) b
        → w.is_live ((act_alone (w.part e) w.messages o).space b) ≡ true
    go x bs (inl k) = ap w.is_live k.2 ∙ old k.0
    go (LocalAct.Bind d s t) bs (inr k) = ap w.is_live k.2 ∙ bs.0
    go _ bs (inr k) = absurd (cc (k.0))

at_parts : (w : World) (e : ℕ) (o : LocalAct) → Legal w (AtEndpoint e o) → Invariant w → (x : ℕ)
    → PartInvariant w.mappings w.config.endpoints w.bindings (w.messages + sends o) x ((act w (AtEndpoint e o)).part x)
at_parts w e o l i =
    put_keeps (λ x p. PartInvariant w.mappings w.config.endpoints w.bindings (w.messages + sends o) x p) w.part e (act_alone (w.part e) w.messages o)
    (act_alone_keeps w.mappings w.config.endpoints w.bindings w.messages e (w.part e) o l.0 l.1.0 (leads w i.mapped) (presents w i.mapped) (i.parts e))
    (λ x. later w.mappings w.config.endpoints w.bindings w.bindings w.messages (w.messages + sends o) x (w.part x) (omega arith) (omega arith) (i.parts x))

at_answered : (w : World) (e : ℕ) (o : LocalAct) (v : Owed) → Legal w (AtEndpoint e o) → Invariant w → (x : ℕ) → answered (w.part x) v ≡ true
    → answered ((act w (AtEndpoint e o)).part x) v ≡ true
at_answered w e o v l i x h =
    put_keeps (λ x p. answered (w.part x) v ≡ true → answered p v ≡ true) w.part e (act_alone (w.part e) w.messages o)
    (λ k. answered_own w.mappings w.bindings w.messages (w.part e) o l.1.0 (i.parts e).labels.sent (i.parts e).bounds v k)
    (λ x k. k) x h

or_answered : {A : Type 0} (b c : Bool) → A ⊎ (b ≡ true) → (b ≡ true → c ≡ true) → A ⊎ (c ≡ true)
or_answered b c (inl a) f = inl a
or_answered b c (inr e) f = inr (f e)

-- is the group's job answered or dropped by this act?
abbrev pub responds_to : LocalAct → ℕ → Bool
responds_to (LocalAct.Respond g code) x = x == g
responds_to (LocalAct.Discard g) x = x == g
responds_to _ x = false

not_answered : (w : World) (e : ℕ) (o : LocalAct) → LetsGo w e o → (x j : ℕ) → w.hand x ≡ Some j → e ≡ (w.job j).endpoint → responds_to o (w.job j).group
    ≡ false
not_answered w e (LocalAct.Respond g code) l x j h same = differ (l x j h (sym same))
  where
    differ : (w.job j).group ≢ g → ((w.job j).group == g) ≡ false
    differ ne = grind (arith, nat_tests)
not_answered w e (LocalAct.Discard g) l x j h same = differ (l x j h (sym same))
  where
    differ : (w.job j).group ≢ g → ((w.job j).group == g) ≡ false
    differ ne = grind (arith, nat_tests)
not_answered w e _ l x j h same = refl

-- a job in hand stays in hand
held_own : (ms : Mappings) (gs n : ℕ) (p : Endpoint) (o : LocalAct) → LegalLocalAct ms gs p o → (g x : ℕ)
    → (IsHeldBy (p.host_group g) x → (r : ℕ) → p.phase ≡ Open → p.group_of r ≡ g → p.page_request r ≢ Arrived) → responds_to o g ≡ false
    → IsHeldBy (p.host_group g) x → IsHeldBy ((act_alone p n o).host_group g) x
held_own ms gs n p o l g x nf ns h = grind (arith, nat_tests, nf h)

-- no request of a group in hand is to be filed
held_filed : (gs : ℕ) (p : Endpoint) → Bounds.Bounds gs p → PageRequests.Lasts p → Groups.Groups p → (g x : ℕ) → IsHeldBy (p.host_group g) x → (r : ℕ)
    → p.phase ≡ Open → p.group_of r ≡ g → p.page_request r ≢ Arrived
held_filed gs p bo la gr g x (inl h) r ph e a = Groups.whole_filed gs p bo la g (ap PageRequests.is_whole h) r e a
held_filed gs p bo la gr g x (inr h) r ph e a =
    let out = la.out r ph (inr a) in
    let over = gr.discarded_over g x ph h in
    absurd (cc (sym (ap (λ y. is_outstanding (p.group y)) e) ∙ out, over))

at_hands : (w : World) (e : ℕ) (o : LocalAct) → Legal w (AtEndpoint e o) → Invariant w → Hands (act w (AtEndpoint e o))
at_hands w e o l i =
    record {
      made = i.hands.made;
      held = λ x j h.
          put_keeps (λ d p. (d ≡ (w.job j).endpoint → IsHeldBy (p.host_group (w.job j).group) x)) w.part e (act_alone (w.part e) w.messages o)
          (λ same. held_own w.mappings w.bindings w.messages (w.part e) o l.1.0 (w.job j).group x
          (held_filed w.bindings (w.part e) (i.parts e).bounds (i.parts e).lasts (i.parts e).groups (w.job j).group x)
          (not_answered w e o l.2 x j h same)
          (subst (λ d. IsHeldBy ((w.part d).host_group (w.job j).group) x) (sym same) (i.hands.held x j h)))
          (λ d same. subst (λ z. IsHeldBy ((w.part z).host_group (w.job j).group) x) (sym same) (i.hands.held x j h))
          (w.job j).endpoint refl;
    }

new_job_hands : (w : World) (e g : ℕ) → Hands w → Hands (act w (NewJob e g))
new_job_hands w e g hs =
    record {
      made = λ x j h. let m = hs.made x j h in omega arith;
      held = λ x j h. let m = hs.made x j h in let ne : j ≢ w.jobs = omega arith in
          subst (λ d. IsHeldBy ((w.part d.endpoint).host_group d.group) x) (sym (put-other w.job w.jobs (record { endpoint = e; group = g }) j ne))
          (hs.held x j h);
    }

hold_hands : (w : World) (x j : ℕ) → Legal w (Hold x j) → Hands w → Hands (act w (Hold x j))
hold_hands w x j l hs =
    record {
      made = λ y k h. hold_made y k (ℕ_cases y x) h;
      held = λ y k h. hold_held y k (ℕ_cases y x) h;
    }
  where
    hold_made : (y k : ℕ) → (y ≡ x) ⊎ (y ≢ x) → put w.hand x (Some j) y ≡ Some k → k < w.jobs
    hold_made y k c h = grind (arith, nat_tests, l.0, hs.made y k)

    hold_held : (y k : ℕ) → (y ≡ x) ⊎ (y ≢ x) → put w.hand x (Some j) y ≡ Some k → IsHeldBy ((w.part (w.job k).endpoint).host_group (w.job k).group) y
    hold_held y k (inl e) h =
        let same : put w.hand x (Some j) y ≡ Some j = subst (λ z. put w.hand x (Some j) z ≡ Some j) (sym e) (put-same w.hand x (Some j)) in
        let kj : j ≡ k = cc in
        subst (λ z. IsHeldBy ((w.part (w.job z).endpoint).host_group (w.job z).group) y) kj
        (subst (λ z. IsHeldBy ((w.part (w.job j).endpoint).host_group (w.job j).group) z) (sym e) (inl l.1))
    hold_held y k (inr ne) h = hs.held y k (sym (put-other w.hand x (Some j) y ne) ∙ h)

let_go_hands : (w : World) (x : ℕ) → Hands w → Hands (act w (LetGo x))
let_go_hands w x hs =
    record {
      made = λ y k h. hs.made y k (was y k (ℕ_cases y x) h);
      held = λ y k h. hs.held y k (was y k (ℕ_cases y x) h);
    }
  where
    was : (y k : ℕ) → (y ≡ x) ⊎ (y ≢ x) → put w.hand x None y ≡ Some k → w.hand y ≡ Some k
    was y k (inl e) h =
        let same : put w.hand x None y ≡ None = subst (λ z. put w.hand x None z ≡ None) (sym e) (put-same w.hand x None) in
        absurd (cc)
    was y k (inr ne) h = sym (put-other w.hand x None y ne) ∙ h

at_shared : (w : World) (e : ℕ) (o : LocalAct) → Legal w (AtEndpoint e o) → Invariant w → w.rule ≡ PerSpace → Shared (act w (AtEndpoint e o)).part
at_shared w e o l i rule =
    shared_more w.part (act w (AtEndpoint e o)).part o (its o l.1.1)
    (put_keeps (λ x p. (b : ℕ) → is_unreleased (p.stage b) ≡ true → WasSo (w.part x) p b ⊎ IsNew o p b) w.part e (act_alone (w.part e) w.messages o)
    (own_from w.mappings w.bindings w.messages (w.part e) o l.1.0)
    (λ x b h. inl (h, refl, refl)))
    (i.shared rule)
  where
    its : (x : LocalAct) → SuitsWorld w e x → binds x ≡ true → IsOf w.part (bound_space x) (bound_pasid x)
    its (LocalAct.Bind b s t) bs h = bs.1 rule
    its _ bs h = absurd (cc (h))

-- an act begins a binding only at the binding's own endpoint
one_endpoint_alone : (w : World) (e : ℕ) (o : LocalAct) → LegalLocalAct w.mappings w.bindings (w.part e) o → SuitsWorld w e o → (b : ℕ)
    → ((w.part e).stage b ≢ Unbound → w.endpoint_of b ≡ e) → (act_alone (w.part e) w.messages o).stage b ≢ Unbound → w.endpoint_of b ≡ e
one_endpoint_alone w e o l bs b old h = grind (arith, nat_tests)

at_one_endpoint : (w : World) (e : ℕ) (o : LocalAct) → Legal w (AtEndpoint e o) → Invariant w → (x b : ℕ) → ((act w (AtEndpoint e o)).part x).stage b ≢ Unbound
    → w.endpoint_of b ≡ x
at_one_endpoint w e o l i =
    put_keeps (λ x p. (b : ℕ) → p.stage b ≢ Unbound → w.endpoint_of b ≡ x) w.part e (act_alone (w.part e) w.messages o)
    (λ b h. one_endpoint_alone w e o l.1.0 l.1.1 b (i.one_endpoint e b) h)
    i.one_endpoint

at_keeps : (w : World) (e : ℕ) (o : LocalAct) → Legal w (AtEndpoint e o) → Invariant w → Invariant (act w (AtEndpoint e o))
at_keeps w e o l i =
    record {
      hands = at_hands w e o l i;
      mapped =
          record {
            unmade = i.mapped.unmade;
            made = i.mapped.made;
            present_at = i.mapped.present_at;
            at_present = i.mapped.at_present;
            latest = i.mapped.latest;
            named = i.mapped.named;
            low = i.mapped.low;
            live = i.mapped.live;
            passed = λ m v x g b. or_answered (answered (w.part x) (v x)) (answered ((act w (AtEndpoint e o)).part x) (v x)) (i.mapped.passed m v x g b)
                (at_answered w e o (v x) l i x);
            bound_live =
                put_keeps (λ x p. (b : ℕ) → is_unreleased (p.stage b) ≡ true → w.is_live (p.space b) ≡ true) w.part e (act_alone (w.part e) w.messages o)
                (λ b. bound_live_own w e o l.1.0 l.1.1 b (i.mapped.bound_live e b))
                i.mapped.bound_live;
          };
      parts = at_parts w e o l i;
      shared = λ rule. at_shared w e o l i rule;
      one_endpoint = at_one_endpoint w e o l i;
    }

-- the world acts that change no mapping and no part
new_space_keeps : (w : World) → Invariant w → Invariant (act w NewSpace)
new_space_keeps w i =
    record {
      hands = record { made = i.hands.made; held = i.hands.held };
      mapped =
          record {
            unmade = i.mapped.unmade;
            made = i.mapped.made;
            present_at = i.mapped.present_at;
            at_present = λ s q m h. let a = i.mapped.at_present s q m h in (a.0, a.1, a.2, live_put s a.3);
            latest = i.mapped.latest;
            named = i.mapped.named;
            low = i.mapped.low;
            passed = i.mapped.passed;
            live = λ s h. live_below s h;
            bound_live = λ e b h. live_put ((w.part e).space b) (i.mapped.bound_live e b h);
          };
      parts = i.parts;
      shared = i.shared;
      one_endpoint = i.one_endpoint;
    }
  where
    live_put : (s : ℕ) → w.is_live s ≡ true → put w.is_live w.spaces true s ≡ true
    live_put s h = grind (arith, nat_tests)

    live_below : (s : ℕ) → put w.is_live w.spaces true s ≡ true → s < suc w.spaces
    live_below s h = grind (arith, nat_tests, i.mapped.live s)

new_binding_keeps : (w : World) (e : ℕ) → Invariant w → Invariant (act w (NewBinding e))
new_binding_keeps w e i =
    record {
      hands = record { made = i.hands.made; held = i.hands.held };
      mapped =
          record {
            unmade = i.mapped.unmade;
            made = i.mapped.made;
            present_at = i.mapped.present_at;
            at_present = i.mapped.at_present;
            latest = i.mapped.latest;
            named = i.mapped.named;
            low = i.mapped.low;
            passed = i.mapped.passed;
            live = i.mapped.live;
            bound_live = i.mapped.bound_live;
          };
      parts = λ x. later w.mappings w.config.endpoints w.bindings (suc w.bindings) w.messages w.messages x (w.part x) (omega arith) (omega arith) (i.parts x);
      shared = i.shared;
      one_endpoint = λ x b h. new_home x b h;
    }
  where
    new_home : (x b : ℕ) → (w.part x).stage b ≢ Unbound → put w.endpoint_of w.bindings e b ≡ x
    new_home x b h = grind (arith, nat_tests, i.one_endpoint x b, (i.parts x).bounds.stage b)

same_keeps : (w : World) (jobs : ℕ) (job : ℕ → JobName) (hand : ℕ → Option ℕ) → Hands (record w { jobs = jobs; job = job; hand = hand })
    → Invariant w → Invariant (record w { jobs = jobs; job = job; hand = hand })
same_keeps w jobs job hand hs i =
    record {
      hands = hs;
      mapped =
          record {
            unmade = i.mapped.unmade;
            made = i.mapped.made;
            present_at = i.mapped.present_at;
            at_present = i.mapped.at_present;
            latest = i.mapped.latest;
            named = i.mapped.named;
            low = i.mapped.low;
            passed = i.mapped.passed;
            live = i.mapped.live;
            bound_live = i.mapped.bound_live;
          };
      parts = i.parts;
      shared = i.shared;
      one_endpoint = i.one_endpoint;
    }

-- A frame that is free is at no page, and nobody owes an answer for it.
free_gone : (w : World) (f m e : ℕ) (v : ℕ → Owed) → is_free w f ≡ true → w.mappings.latest f ≡ Some m → w.mappings.state m ≡ Gone v → e
    < w.config.endpoints → answered (w.part e) (v e) ≡ true
free_gone w f m e v h la g b =
    all_below-true w.config.endpoints (λ x. answered (w.part x) (v x))
    (is_all (all_below w.config.endpoints (λ x. answered (w.part x) (v x))) (sym (ap (λ s. is_free_place (place_by w s)) g)
    ∙ sym (ap (λ o. is_free_place (place_at w o)) la) ∙ h)) e b
  where
    is_all : (x : Bool) → is_free_place (place_of_gone x) ≡ true → x ≡ true
    is_all true k = refl
    is_all false k = absurd (cc)

free_present : (w : World) (f m : ℕ) → is_free w f ≡ true → w.mappings.latest f ≡ Some m → w.mappings.state m ≢ Present
free_present w f m h la g = absurd (cc (sym (ap (λ s. is_free_place (place_by w s)) g) ∙ sym (ap (λ o. is_free_place (place_at w o)) la) ∙ h))

-- mapping a page leaves what was made before
safe_map : (w : World) (s q f : ℕ) (x : Bool) (e b m age : ℕ) (p : Endpoint) → m < w.mappings.made → Safe.IsSafe w.mappings e p b m age
    → Safe.IsSafe (act w (Map s q f x)).mappings e p b m age
safe_map w s q f x e b m age p l h =
    let ne : m ≢ w.mappings.made = omega arith in
    let a : (act w (Map s q f x)).mappings.state m ≡ w.mappings.state m = put-other w.mappings.state w.mappings.made Present m ne in
    let c : (act w (Map s q f x)).mappings.page m ≡ w.mappings.page m = put-other w.mappings.page w.mappings.made q m ne in
    subst (λ z. (z ≡ Present) ⊎ Safe.Pending p b ((act w (Map s q f x)).mappings.page m) age (Safe.owed_of z e)) (sym a)
    (subst (λ z. (w.mappings.state m ≡ Present) ⊎ Safe.Pending p b z age (Safe.owed_of (w.mappings.state m) e)) (sym c) h)

owners_map : (w : World) (s q f : ℕ) (x : Bool) (p : Endpoint) → Owners.Owners w.mappings p → Owners.Owners (act w (Map s q f x)).mappings p
owners_map w s q f x p ow =
    record {
      held = ow.held;
      running = ow.running;
      held_space = λ r m h. other_space m (ow.held_made r m h) ∙ ow.held_space r m h;
      held_page = λ r m h. other_page m (ow.held_made r m h) ∙ ow.held_page r m h;
      flying_space = λ c r m h. other_space m (ow.flying_made c r m h) ∙ ow.flying_space c r m h;
      flying_page = λ c r m h. other_page m (ow.flying_made c r m h) ∙ ow.flying_page c r m h;
      running_space = λ u h. other_space (p.use_mapping u) (ow.running_made u h) ∙ ow.running_space u h;
      held_made = λ r m h. let k = ow.held_made r m h in omega arith;
      flying_made = λ c r m h. let k = ow.flying_made c r m h in omega arith;
      running_made = λ u h. let k = ow.running_made u h in omega arith;
      held_open = ow.held_open;
      held_closed = ow.held_closed;
      running_open = ow.running_open;
      running_closed = ow.running_closed;
    }
  where
    other_space : (m : ℕ) → m < w.mappings.made → (act w (Map s q f x)).mappings.space m ≡ w.mappings.space m
    other_space m l = let ne : m ≢ w.mappings.made = omega arith in put-other w.mappings.space w.mappings.made s m ne

    other_page : (m : ℕ) → m < w.mappings.made → (act w (Map s q f x)).mappings.page m ≡ w.mappings.page m
    other_page m l = let ne : m ≢ w.mappings.made = omega arith in put-other w.mappings.page w.mappings.made q m ne

map_passed : (w : World) (s q f : ℕ) (x : Bool) → Legal w (Map s q f x) → Invariant w → (k : ℕ) (v : ℕ → Owed) (e : ℕ)
    → (act w (Map s q f x)).mappings.state k ≡ Gone v → e < w.config.endpoints
    → ((act w (Map s q f x)).mappings.latest ((act w (Map s q f x)).mappings.frame k) ≡ Some k) ⊎ (answered (w.part e) (v e) ≡ true)
map_passed w s q f x l i k v e g b =
    let free : w.mappings.latest f ≡ Some k → w.mappings.state k ≡ Gone v → answered (w.part e) (v e) ≡ true = λ la gg. free_gone w f k e v l.2 la gg b in
    let old : w.mappings.state k ≡ Gone v → (w.mappings.latest (w.mappings.frame k) ≡ Some k) ⊎ (answered (w.part e) (v e) ≡ true) =
    λ gg. i.mapped.passed k v e gg b in
    grind (arith, nat_tests, free, old)

map_mapped : (w : World) (s q f : ℕ) (x : Bool) → Legal w (Map s q f x) → Invariant w → Mapped (act w (Map s q f x))
map_mapped w s q f x l i =
    let ma = i.mapped in
    record {
      unmade = λ k h. grind (arith, nat_tests, ma.unmade k);
      made = λ k h. grind (arith, nat_tests, ma.made k);
      present_at = λ k h. grind (arith, nat_tests, ma.present_at k);
      at_present = λ t r k h. grind (arith, nat_tests, ma.at_present t r k, l.0, ma.unmade);
      latest = λ k h. grind (arith, nat_tests, ma.latest k, free_present w f k l.2);
      named = λ g k h. grind (arith, nat_tests, ma.named g k);
      low = λ k h. grind (arith, nat_tests, ma.low k, l.3);
      passed = map_passed w s q f x l i;
      live = ma.live;
      bound_live = ma.bound_live;
    }

map_keeps : (w : World) (s q f : ℕ) (x : Bool) → Legal w (Map s q f x) → Invariant w → Invariant (act w (Map s q f x))
map_keeps w s q f x l i =
    record {
      hands = record { made = i.hands.made; held = i.hands.held };
      mapped = map_mapped w s q f x l i;
      shared = i.shared;
      one_endpoint = i.one_endpoint;
      parts =
          λ e.
          record {
            there = (i.parts e).there;
            near = (i.parts e).near;
            resets = (i.parts e).resets;
            bounds = (i.parts e).bounds;
            bindings = (i.parts e).bindings;
            labels = (i.parts e).labels;
            requests = (i.parts e).requests;
            orders = (i.parts e).orders;
            owners = owners_map w s q f x (w.part e) (i.parts e).owners;
            safe =
                record {
                  held = λ r m h. safe_map w s q f x e ((w.part e).request_binding r) m (w.part e).uses (w.part e)
                      ((i.parts e).owners.held_made r m h) ((i.parts e).safe.held r m h);
                  flying = λ c r m h o. safe_map w s q f x e ((w.part e).request_binding r) m (w.part e).uses (w.part e)
                      ((i.parts e).owners.flying_made c r m h) ((i.parts e).safe.flying c r m h o);
                  running = λ u h. safe_map w s q f x e ((w.part e).use_binding u) ((w.part e).use_mapping u) u (w.part e)
                      ((i.parts e).owners.running_made u h) ((i.parts e).safe.running u h);
                };
            queued = (i.parts e).queued;
            lasts = (i.parts e).lasts;
            groups = (i.parts e).groups;
          };
    }

-- mappings that go leave the table of mappings in order
without_mapped :
    (w : World) (s cookies : ℕ) (pages : ℕ → Bool) (owed : ℕ → Owed) (live : ℕ → Bool) (part : ℕ → Endpoint)
    → ((x : ℕ) → live x ≡ true → w.is_live x ≡ true)
    → ((t q m : ℕ) → (without_pages w.mappings s pages owed).at t q ≡ Some m → live t ≡ true)
    → ((e b : ℕ) → is_unreleased ((part e).stage b) ≡ true → live ((part e).space b) ≡ true)
    → ((e : ℕ) (v : Owed) → answered (w.part e) v ≡ true → answered (part e) v ≡ true)
    → Mapped w
    → Mapped (record w { mappings = without_pages w.mappings s pages owed; is_live = live; cookies = cookies; part = part })
without_mapped w s cookies pages owed live part sub there alive more ma =
    record {
      unmade = λ m h. let u = ma.unmade m h in gone_unmade (w.mappings.space m == s && pages (w.mappings.page m)) (w.mappings.state m) u;
      made = λ m h. gone_made (w.mappings.space m == s && pages (w.mappings.page m)) (w.mappings.state m) (ma.made m h);
      present_at = λ m h. still_at m (gone_present (w.mappings.space m == s && pages (w.mappings.page m)) (w.mappings.state m) h)
          (gone_not (w.mappings.space m == s && pages (w.mappings.page m)) (w.mappings.state m) h);
      at_present = λ t q m h. let a =
          ma.at_present t q m (Unmapping.was_at w.mappings s pages owed t q m h) in (still_present t q m h a.0 a.1 a.2, a.1, a.2, there t q m h);
      latest = λ m h. ma.latest m (gone_present (w.mappings.space m == s && pages (w.mappings.page m)) (w.mappings.state m) h);
      named = ma.named;
      low = ma.low;
      passed = λ m v e g b. gone_passed m v e (w.mappings.space m == s && pages (w.mappings.page m)) (w.mappings.state m) refl g b;
      live = λ x h. ma.live x (sub x h);
      bound_live = alive;
    }
  where
    gone_unmade : (t : Bool) (z : MappingState) → z ≡ Unmade → gone_if t owed z ≡ Unmade
    gone_unmade t z h = grind arith

    gone_made : (t : Bool) (z : MappingState) → z ≢ Unmade → gone_if t owed z ≢ Unmade
    gone_made t z h k = grind arith

    gone_present : (t : Bool) (z : MappingState) → gone_if t owed z ≡ Present → z ≡ Present
    gone_present t z h = grind arith

    gone_not : (t : Bool) (z : MappingState) → gone_if t owed z ≡ Present → t ≡ false
    gone_not t z h = grind arith

    still_at : (m : ℕ) → w.mappings.state m ≡ Present → (w.mappings.space m == s && pages (w.mappings.page m)) ≡ false
        → (without_pages w.mappings s pages owed).at (w.mappings.space m) (w.mappings.page m) ≡ Some m
    still_at m h t = let a = ma.present_at m h in grind (arith, nat_tests)

    still_present : (t q m : ℕ) → (without_pages w.mappings s pages owed).at t q ≡ Some m → w.mappings.state m ≡ Present → w.mappings.space m ≡ t
        → w.mappings.page m ≡ q → gone_if (w.mappings.space m == s && pages (w.mappings.page m)) owed (w.mappings.state m) ≡ Present
    still_present t q m h p sp pg = grind (arith, nat_tests)

    gone_passed : (m : ℕ) (v : ℕ → Owed) (e : ℕ) (t : Bool) (z : MappingState) → w.mappings.state m ≡ z → gone_if t owed z ≡ Gone v → e
        < w.config.endpoints → (w.mappings.latest (w.mappings.frame m) ≡ Some m) ⊎ (answered (part e) (v e) ≡ true)
    gone_passed m v e t Unmade a g b = absurd (gone_unmade_gone t g)
      where
        gone_unmade_gone : (t : Bool) → gone_if t owed Unmade ≢ Gone v
        gone_unmade_gone true h = absurd (cc)
        gone_unmade_gone false h = absurd (cc)
    gone_passed m v e t Present a g b = inl (ma.latest m a)
    gone_passed m v e t (Gone u) a g b =
        or_answered (answered (w.part e) (v e)) (answered (part e) (v e)) (ma.passed m v e (a ∙ gone_gone t g) b) (more e (v e))
      where
        gone_gone : (t : Bool) → gone_if t owed (Gone u) ≡ Gone v → Gone u ≡ Gone v
        gone_gone true h = h
        gone_gone false h = h

owners_without : (ms : Mappings) (s : ℕ) (pages : ℕ → Bool) (owed : ℕ → Owed) (p : Endpoint) → Owners.Owners ms p
    → Owners.Owners (without_pages ms s pages owed) p
owners_without ms s pages owed p ow =
    record {
      held = ow.held;
      running = ow.running;
      held_space = ow.held_space;
      held_page = ow.held_page;
      flying_space = ow.flying_space;
      flying_page = ow.flying_page;
      running_space = ow.running_space;
      held_made = ow.held_made;
      flying_made = ow.flying_made;
      running_made = ow.running_made;
      held_open = ow.held_open;
      held_closed = ow.held_closed;
      running_open = ow.running_open;
      running_closed = ow.running_closed;
    }

-- the owner of a request out is active
asked_active : (p : Endpoint) (r : ℕ) → Bindings.Bindings p → Requests.Requests p → p.request r ≡ Out → Orders.is_active (p.stage (p.request_binding r)) ≡ true
asked_active p r bi ra h = unmarked_active (Owners.asker_stage p r bi ra h)
  where
    unmarked_active : Bindings.is_unmarked (p.stage (p.request_binding r)) ≡ true → Orders.is_active (p.stage (p.request_binding r)) ≡ true
    unmarked_active k = grind arith

-- what is safe for an active owner, wherever its mapping is of its space
abbrev pub KeepsSafe : (ms ms' : Mappings) (e : ℕ) (p p' : Endpoint) → Type 0
KeepsSafe ms ms' e p p' = (b m age : ℕ) → Orders.is_active (p.stage b) ≡ true → ms.space m ≡ p.space b → Safe.IsSafe ms e p b m age
    → Safe.IsSafe ms' e p' b m age

safe_kept : (ms ms' : Mappings) (x g n e : ℕ) (p : Endpoint) → KeepsSafe ms ms' e p p → PartInvariant ms x g n e p → Safe.Safe ms' e p
safe_kept ms ms' x g n e p k i =
    record {
      held = λ r m h. k (p.request_binding r) m p.uses (i.owners.held r m h) (i.owners.held_space r m h) (i.safe.held r m h);
      flying = λ c r m h o. k (p.request_binding r) m p.uses (asked_active p r i.bindings i.requests o) (i.owners.flying_space c r m h)
          (i.safe.flying c r m h o);
      running = λ u h. k (p.use_binding u) (p.use_mapping u) u (i.owners.running u h) (i.owners.running_space u h) (i.safe.running u h);
    }

safe_submitted : (ms ms' : Mappings) (x g n e : ℕ) (p : Endpoint) (b q count order cookie : ℕ)
    → KeepsSafe ms ms' e p (submitted p b q count order cookie) → PartInvariant ms x g n e p → Safe.Safe ms' e (submitted p b q count order cookie)
safe_submitted ms ms' x g n e p b q count order cookie k i =
    record {
      held = λ r m h. k (p.request_binding r) m p.uses (i.owners.held r m h) (i.owners.held_space r m h) (i.safe.held r m h);
      flying = λ c r m h o. k (p.request_binding r) m p.uses (asked_active p r i.bindings i.requests o) (i.owners.flying_space c r m h)
          (i.safe.flying c r m h o);
      running = λ u h. k (p.use_binding u) (p.use_mapping u) u (i.owners.running u h) (i.owners.running_space u h) (i.safe.running u h);
    }

left_part : (ms : Mappings) (s x g n e : ℕ) (pages : ℕ → Bool) (owed : ℕ → Owed) (p : Endpoint) → KeepsSafe ms (without_pages ms s pages owed) e p p
    → PartInvariant ms x g n e p → PartInvariant (without_pages ms s pages owed) x g n e p
left_part ms s x g n e pages owed p k i =
    record {
      there = i.there;
      near = i.near;
      resets = i.resets;
      bounds = i.bounds;
      bindings = i.bindings;
      labels = i.labels;
      requests = i.requests;
      orders = i.orders;
      owners = owners_without ms s pages owed p i.owners;
      safe = safe_kept ms (without_pages ms s pages owed) x g n e p k i;
      queued = i.queued;
      lasts = i.lasts;
      groups = i.groups;
    }

submitted_part : (ms : Mappings) (s x g n e : ℕ) (pages : ℕ → Bool) (owed : ℕ → Owed) (p : Endpoint) (b q count order cookie : ℕ) → p.phase ≡ Open
    → is_before_invalidating (p.stage b) ≡ true → KeepsSafe ms (without_pages ms s pages owed) e p (submitted p b q count order cookie)
    → PartInvariant ms x g n e p → PartInvariant (without_pages ms s pages owed) x g n e (submitted p b q count order cookie)
submitted_part ms s x g n e pages owed p b q count order cookie ph st k i =
    record {
      there = i.there;
      near = i.near;
      resets = Submitted.resets_submitted n b q count order cookie p ph i.resets;
      bounds = Submitted.bounds_submitted g b q count order cookie p i.bounds;
      bindings = Submitted.bindings_submitted b q count order cookie p i.bindings;
      labels = Submitted.labels_submitted g b q count order cookie p i.bounds i.labels;
      requests = Submitted.requests_submitted b q count order cookie p i.requests;
      orders = Submitted.orders_submitted g b q count order cookie p st i.bounds i.orders;
      owners = owners_without ms s pages owed (submitted p b q count order cookie)
          (Submitted.owners_submitted ms g b q count order cookie p i.orders i.owners);
      safe = safe_submitted ms (without_pages ms s pages owed) x g n e p b q count order cookie k i;
      queued = Submitted.queued_submitted b q count order cookie p i.queued;
      lasts = Submitted.lasts_submitted b q count order cookie p i.lasts;
      groups = Submitted.groups_submitted b q count order cookie p i.orders i.groups;
    }

part_unmapped : (ms : Mappings) (s x g n e : ℕ) (pages : ℕ → Bool) (owed : ℕ → Owed) (p : Endpoint) (sub : Bool) (o : Option ℕ)
    (q count order cookie : ℕ) → submits_at p o ≡ sub → KeepsSafe ms (without_pages ms s pages owed) e p (submitted_if sub p o q count order cookie)
    → PartInvariant ms x g n e p → PartInvariant (without_pages ms s pages owed) x g n e (submitted_if sub p o q count order cookie)
part_unmapped ms s x g n e pages owed p true (Some b) q count order cookie h k i =
    submitted_part ms s x g n e pages owed p b q count order cookie (opens (is_open p.phase) refl h) (before (is_open p.phase) h) k i
  where
    opens : (y : Bool) → is_open p.phase ≡ y → (y && is_before_invalidating (p.stage b)) ≡ true → p.phase ≡ Open
    opens true f h = open_is p f
    opens false f h = absurd (cc)

    before : (y : Bool) → (y && is_before_invalidating (p.stage b)) ≡ true → is_before_invalidating (p.stage b) ≡ true
    before true h = h
    before false h = absurd (cc)
part_unmapped ms s x g n e pages owed p true None q count order cookie h k i = left_part ms s x g n e pages owed p k i
part_unmapped ms s x g n e pages owed p false o q count order cookie h k i = left_part ms s x g n e pages owed p k i

unmap_keeps : (w : World) (s q count order : ℕ) → Invariant w → Invariant (act w (Unmap s q count order))
unmap_keeps w s q count order i =
    record {
      hands = record {
        made = i.hands.made;
        held =
            λ x j h. sub_hands (w.job j).endpoint (w.job j).group x (submits w s (w.job j).endpoint) (bound w (w.job j).endpoint s) (i.hands.held x j h);
      };
      mapped =
          without_mapped w s _ (in_range q (count * 2 ^ order)) (λ e. owed_by (w.part e) count (bound w e s)) w.is_live (part_after_unmap w s q count order)
          (λ x h. h)
          (λ t r m h. (i.mapped.at_present t r m
          (Unmapping.was_at w.mappings s (in_range q (count * 2 ^ order)) (λ e. owed_by (w.part e) count (bound w e s)) t r m h)).3)
          (λ e b h. sub_live e b (submits w s e) (bound w e s) h)
          (λ e v h. answered_submitted w.bindings (submits w s e) (w.part e) (bound w e s) q count order (cookie_of w s e) (i.parts e).bounds v h)
          i.mapped;
      parts =
          λ e.
          part_unmapped w.mappings s w.config.endpoints w.bindings w.messages e (in_range q (count * 2 ^ order))
          (λ x. owed_by (w.part x) count (bound w x s)) (w.part e) (submits w s e) (bound w e s) q count order (cookie_of w s e) refl
          (λ b m age a sp sa. Unmapping.unmap_safe w s q count order e b m age i a sp sa)
          (i.parts e);
      shared = λ rule. shared_still w.part (part_after_unmap w s q count order)
          (λ e b h. submitted_from (submits w s e) (w.part e) (bound w e s) q count order (cookie_of w s e) b h) (i.shared rule);
      one_endpoint = λ e b h. sub_home e b (submits w s e) (bound w e s) h;
    }
  where
    sub_home : (e b : ℕ) (t : Bool) (o : Option ℕ) → (submitted_if t (w.part e) o q count order (cookie_of w s e)).stage b ≢ Unbound → w.endpoint_of b ≡ e
    sub_home e b true (Some d) h = i.one_endpoint e b h
    sub_home e b true None h = i.one_endpoint e b h
    sub_home e b false o h = i.one_endpoint e b h

    sub_live : (e b : ℕ) (t : Bool) (o : Option ℕ) → is_unreleased ((submitted_if t (w.part e) o q count order (cookie_of w s e)).stage b) ≡ true
        → w.is_live ((submitted_if t (w.part e) o q count order (cookie_of w s e)).space b) ≡ true
    sub_live e b true (Some d) h = i.mapped.bound_live e b h
    sub_live e b true None h = i.mapped.bound_live e b h
    sub_live e b false o h = i.mapped.bound_live e b h

    sub_hands : (e g x : ℕ) (t : Bool) (o : Option ℕ) → IsHeldBy ((w.part e).host_group g) x
        → IsHeldBy ((submitted_if t (w.part e) o q count order (cookie_of w s e)).host_group g) x
    sub_hands e g x true (Some d) h = h
    sub_hands e g x true None h = h
    sub_hands e g x false o h = h

drop_keeps : (w : World) (s : ℕ) → Legal w (DropSpace s) → Invariant w → Invariant (act w (DropSpace s))
drop_keeps w s l i =
    record {
      hands = record { made = i.hands.made; held = i.hands.held };
      mapped =
          without_mapped w s w.cookies (λ q. true) (λ e. Nothing) (put w.is_live s false) w.part
          (λ x h. was_true w.is_live s x h)
          (λ t q m h. other_live t q m (ℕ_cases t s) h)
          (λ e b h. bound_other ((w.part e).space b) (l e b h) (i.mapped.bound_live e b h))
          (λ e v h. h)
          i.mapped;
      parts =
          λ e.
          left_part w.mappings s w.config.endpoints w.bindings w.messages e (λ q. true) (λ x. Nothing) (w.part e)
          (λ b m age a sp sa.
          Unmapping.safe_without w.mappings e (w.part e) (w.part e) b m age (w.mappings.space m == s && true) (λ x. Nothing) sa (λ v h. h)
          (λ t pr. absurd (l e b (active_unreleased ((w.part e).stage b) a) (sym sp ∙ same_space m t))))
          (i.parts e);
      shared = i.shared;
      one_endpoint = i.one_endpoint;
    }
  where
    bound_other : (t : ℕ) → t ≢ s → w.is_live t ≡ true → put w.is_live s false t ≡ true
    bound_other t ne h = put-other w.is_live s false t ne ∙ h

    same_space : (m : ℕ) → (w.mappings.space m == s && true) ≡ true → w.mappings.space m ≡ s
    same_space m h = grind (arith, nat_tests)

    gone_pages : (q : ℕ) (o : Option ℕ) → unless (λ m. true) o ≡ None
    gone_pages q None = refl
    gone_pages q (Some k) = refl

    other_live : (t q m : ℕ) → (t ≡ s) ⊎ (t ≢ s) → (without_pages w.mappings s (λ q. true) (λ e. Nothing)).at t q ≡ Some m → put w.is_live s false t ≡ true
    other_live t q m (inl e) h =
        let at_s : (without_pages w.mappings s (λ q. true) (λ e. Nothing)).at s q ≡ Some m =
        subst (λ z. (without_pages w.mappings s (λ q. true) (λ e. Nothing)).at z q ≡ Some m) e h in
        let eq : (without_pages w.mappings s (λ q. true) (λ e. Nothing)).at s q ≡ unless (λ k. true) (w.mappings.at s q) =
        ap (λ g. g q) (put-same w.mappings.at s (λ x. unless (λ k. true) (w.mappings.at s x))) in
        absurd (cc (sym (gone_pages q (w.mappings.at s q)) ∙ sym eq ∙ at_s))
    other_live t q m (inr ne) h =
        bound_other t ne (i.mapped.at_present t q m (Unmapping.was_at w.mappings s (λ q. true) (λ e. Nothing) t q m h)).3

pub act_keeps : (w : World) (a : Act) → Legal w a → Invariant w → Invariant (act w a)
act_keeps w NewSpace l i = new_space_keeps w i
act_keeps w (DropSpace s) l i = drop_keeps w s l i
act_keeps w (Map s q f x) l i = map_keeps w s q f x l i
act_keeps w (Unmap s q count order) l i = unmap_keeps w s q count order i
act_keeps w (NewBinding e) l i = new_binding_keeps w e i
act_keeps w (NewJob e g) l i = same_keeps w (suc w.jobs) (put w.job w.jobs (record { endpoint = e; group = g })) w.hand (new_job_hands w e g i.hands) i
act_keeps w (Hold x j) l i = same_keeps w w.jobs w.job (put w.hand x (Some j)) (hold_hands w x j l i.hands) i
act_keeps w (LetGo x) l i = same_keeps w w.jobs w.job (put w.hand x None) (let_go_hands w x i.hands) i
act_keeps w (AtEndpoint e o) l i = at_keeps w e o l i
