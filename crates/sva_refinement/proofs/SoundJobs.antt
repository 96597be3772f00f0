-- Jobs, queued and in the hands of workers, and the groups that are open beside them: what the service of page requests needs.
use Rattle.std.proofs.Common.{◌≡◌, ◌≢◌, ◌⊎◌, inl, inr, refl, ap, sym, subst, ◌∙◌, ℕ, ◌+◌, ◌<◌, ◌≤◌, Bool, true, false, arith}
use Rattle.std.specs.Prelude.{Option, Some, None, option_map, ◌&&◌, ◌||◌, ◌==◌, List, [], ◌∷◌, length, slice_get}
use Rattle.std.specs.List.{list_any}
use Rattle.std.proofs.lemmas.Bool.{cases_lt, eq-eqb, eqb-true, false_from_ne_true}
use Rattle.sva_step.specs.declared.steps.Verdict.TheVariants as verdict
use Rattle.sva_model.specs.Words as words
use Rattle.sva_model.specs.Words.{count_below}
use Rattle.sva_model.specs.State.{Endpoint, World, Stage, Phase, HostGroupState, Mappings}
use Rattle.sva_model.specs.State.Stage.{Unbound}
use Rattle.sva_model.specs.State.PageRequestState.{Arrived}
use Rattle.sva_model.specs.State.HostGroupState.{Job, InHand, InHandDiscarded}
use Rattle.sva_model.specs.State.Phase.{Open}
use Rattle.sva_model.specs.States.{is_open, is_unreleased, is_before_invalidating, is_open_group, is_job}
use Rattle.sva_model.specs.Labels
use Rattle.sva_model.specs.Replies.{response, job_binding}
use Rattle.sva_model.specs.Wire.{BindingWire, JobWire, HostGroupWire, PageRequestWire, number, binding_wire, asks_wire, ask_wire, group_job, job_wire}
use Rattle.sva_model.specs.Wire.{part_wire, wire}
use Rattle.sva_labels.proofs.Counting.{count_placed, pigeons}
use Rattle.sva_laws.proofs.LegalUnit.{group_there}
use Rattle.sva_laws.proofs.Orders.{is_active}
use Rattle.sva_laws.proofs.Bounds.{Bounds}
use Rattle.sva_laws.proofs.Groups.{is_filed_group, whole_filed, open_filed}
use Rattle.sva_laws.proofs.PageRequests.{is_whole, arrived_is}
use Rattle.sva_laws.proofs.Invariant.{PartInvariant, Invariant, IsHeldBy}
use Rattle.sva_labels.proofs.Lists.{none_below}
use Rattle.sva_labels.specs.Finding.{idle, part_of, binding_of, bearer, held_by, has_open_group}
use Rattle.sva_labels.specs.Moves.{is_of_job}
use Rattle.sva_labels.specs.Replying.{responds}
use Rattle.sva_labels.specs.Sound.{is_job_of, HasNoJob, IsJob}
use Rattle.sva_refinement.proofs.EndpointViews.{endpoints_seen, part_seen}
use Rattle.sva_refinement.proofs.HostGroupsAct.{filed_group, asks_seen}
use Rattle.sva_refinement.proofs.HostGroupsFiled.{Filings, filed_made}
use Rattle.sva_refinement.proofs.LookedBindings.{binding_named, binding_released}
use Rattle.sva_refinement.proofs.LookedFilings.{one_group}
use Rattle.sva_refinement.proofs.LookedGroups.{open_there}
use Rattle.sva_refinement.proofs.LookedLists.{length_seen}
use Rattle.sva_refinement.proofs.LookedReplies.{InHandNow, job_there, responds_there}
use Rattle.sva_refinement.proofs.Lookups.{any_seen}
use Rattle.sva_labels.proofs.Lists.{tabulate_past}
use Rattle.sva_refinement.proofs.SaysServe.{held_there}
use Rattle.sva_refinement.proofs.SoundFlights.{IsWaitingAt, waiting_at, bearer_found}
use Rattle.sva_refinement.proofs.SoundLists.{seen_get}
use Rattle.sva_refinement.proofs.SoundPasids.{IsKeptAt}
use Rattle.sva_laws.proofs.Filed.{FiledOnce}
use Rattle.sva_refinement.proofs.SoundSizes.{Sized}
use Rattle.sva_laws.proofs.Groups.{filed_made as group_made}
use Rattle.sva_laws.proofs.Bindings.{before_unreleased}
use Rattle.sva_labels.proofs.Tests.{first_holds, second_holds}

one_of : {A : Type 0} (a c : A) → Some a ≡ Some c → a ≡ c
one_of a c h = cc

-- The group of a job that is queued, or in the hand of a worker.

abbrev is_kept_group : HostGroupState → Bool
is_kept_group Job = true
is_kept_group (InHand x) = true
is_kept_group (InHandDiscarded x) = true
is_kept_group _ = false

kept_filed : (s : HostGroupState) → is_kept_group s ≡ true → is_filed_group s ≡ true
kept_filed s h = grind arith

job_kept : (s : HostGroupState) → is_job s ≡ true → is_kept_group s ≡ true
job_kept s h = grind arith

held_kept : (s : HostGroupState) (x : ℕ) → IsHeldBy s x → is_kept_group s ≡ true
held_kept s x h = grind arith

-- what is filed of a group is something, and no more than 32 requests
asks_count : (p : Endpoint) (g : ℕ) → length (asks_wire p g) ≡ count_below p.filings (λ k. filed_group p k == g)
asks_count p g = ap length (asks_seen p g) ∙ length_seen (λ k. ask_wire p (p.filing k)) p.filings (λ k. filed_group p k == g)

some_asked : (p : Endpoint) (g : ℕ) → Filings p → is_filed_group (p.host_group g) ≡ true → 0 < length (asks_wire p g)
some_asked p g fi h =
    let f = fi.begun g h in
    let one =
    pigeons 1 p.filings (λ k. filed_group p k == g) (λ j. f.0) (λ j l. f.1) (λ j l. eq-eqb (filed_group p f.0) g f.2)
    (λ j k l m e. omega (arith, l, m)) in
    let many = asks_count p g in
    omega (arith, one, many)

few_asked : (m : ℕ) (p : Endpoint) (g : ℕ) → Bounds m p → Filings p → FiledOnce p → Sized p → length (asks_wire p g) ≤ 32
few_asked m p g bo fi once si =
    let placed =
    count_placed p.filings p.page_requests (λ k. filed_group p k == g) (λ r. p.group_of r == g) p.filing
    (λ k l t. filed_made m p bo fi k l) (λ k l t. t) once.once in
    let few = si.few g in
    let many = asks_count p g in
    omega (arith, placed, few, many)

-- a binding that was bound here is at home here
home_of :
    (w : World) (e d : ℕ) → Invariant w → (w.part e).stage d ≢ Unbound → (b : BindingWire) → binding_of (wire w) (number w.config.first d) ≡ Some b
    → b.endpoint ≡ e
home_of w e d i ne b h = go (is_unreleased ((w.part e).stage d)) refl
  where
    go : (t : Bool) → is_unreleased ((w.part e).stage d) ≡ t → b.endpoint ≡ e
    go true u = ap (λ z. z.endpoint) (one_of b (binding_wire w.config.first e (w.part e) d) (sym h ∙ binding_named w e d i u))
    go false u = absurd (cc (sym h ∙ binding_released w e d i ne u))

job_of_group :
    (w : World) (e g : ℕ) → Invariant w → Filings (w.part e) → FiledOnce (w.part e) → Sized (w.part e) → is_kept_group ((w.part e).host_group g) ≡ true
    → IsJob (wire w) (group_job w.config.first e (w.part e) g)
job_of_group w e g i fi once si k =
    record {
      endpoint_low = subst (λ n. e < n) (sym (endpoints_seen w)) (group_there w e g i made);
      index_low = si.index_low g;
      asks_some = some_asked (w.part e) g fi filed;
      asks_few = few_asked w.bindings (w.part e) g (i.parts e).bounds fi once si;
      at_home = λ b h. home_of w e ((w.part e).filed_under g) i bound b h;
    }
  where
    filed : is_filed_group ((w.part e).host_group g) ≡ true
    filed = kept_filed ((w.part e).host_group g) k

    made : g < (w.part e).groups
    made = group_made w.bindings (w.part e) (i.parts e).bounds g filed

    bound : (w.part e).stage ((w.part e).filed_under g) ≢ Unbound
    bound u = (i.parts e).groups.asker_bound g made (ap (w.part e).stage (sym ((i.parts e).groups.under g filed)) ∙ u)

pub queued_job :
    (w : World) → Invariant w → ((e : ℕ) → Filings (w.part e)) → ((e : ℕ) → FiledOnce (w.part e)) → ((e : ℕ) → Sized (w.part e))
    → (k : ℕ) (job : JobWire)
    → slice_get (wire w).jobs k ≡ Some job
    → IsJob (wire w) job
queued_job w i fi once si k job h =
    let x = seen_get w.jobs (Labels.is_queued_job w) (job_wire w) k job h in
    let e = (w.job x.of).endpoint in
    subst (IsJob (wire w)) (sym x.seen)
    (job_of_group w e (w.job x.of).group i (fi e) (once e) (si e) (job_kept ((w.part e).host_group (w.job x.of).group) x.passes))

-- the job in the hand of a worker
record IsInHand (w : World) (x : ℕ) (job : JobWire) : Type 0 where
  of : ℕ
  held : w.hand x ≡ Some of
  seen : job ≡ job_wire w of

in_hand : (w : World) (x : ℕ) (job : JobWire) → held_by (wire w) x ≡ Some job → IsInHand w x job
in_hand w x job h = go (cases_lt x w.config.workers)
  where
    by : (o : Option ℕ) → w.hand x ≡ o → option_map (job_wire w) o ≡ Some job → IsInHand w x job
    by None e s = absurd (cc (s))
    by (Some j) e s = record { of = j; held = e; seen = one_of job (job_wire w j) (sym s) }

    go : (x < w.config.workers) ⊎ (w.config.workers ≤ x) → IsInHand w x job
    go (inl l) = by (w.hand x) refl (sym (held_there w x l) ∙ h)
    go (inr m) = absurd (cc (sym (tabulate_past w.config.workers (λ y. option_map (job_wire w) (w.hand y)) x None m) ∙ h))

pub held_job :
    (w : World) → Invariant w → ((e : ℕ) → Filings (w.part e)) → ((e : ℕ) → FiledOnce (w.part e)) → ((e : ℕ) → Sized (w.part e))
    → (x : ℕ) (job : JobWire)
    → held_by (wire w) x ≡ Some job
    → IsJob (wire w) job
held_job w i fi once si x job h =
    let z = in_hand w x job h in
    let e = (w.job z.of).endpoint in
    subst (IsJob (wire w)) (sym z.seen)
    (job_of_group w e (w.job z.of).group i (fi e) (once e) (si e) (held_kept ((w.part e).host_group (w.job z.of).group) x (i.hands.held x z.of z.held)))

-- Open groups of a binding.

none_such :
    (p : Endpoint) (d : ℕ) → ((g : ℕ) → is_open_group (p.host_group g) ≡ true → p.filed_under g ≡ d → ⊥) → Labels.has_open_group p d ≡ false
none_such p d h =
    none_below p.groups (λ g. is_open_group (p.host_group g) && p.filed_under g == d)
    (λ g l. false_from_ne_true (is_open_group (p.host_group g) && p.filed_under g == d)
    (λ t. h g (first_holds (is_open_group (p.host_group g)) (p.filed_under g == d) t)
    (eqb-true (p.filed_under g) d (second_holds (is_open_group (p.host_group g)) (p.filed_under g == d) t))))

opened_is : (p : Phase) → is_open p ≡ true → p ≡ Open
opened_is p h = grind arith

-- none is open where the unit isn't, or the binding isn't Live, Stopping or Draining
none_open :
    (w : World) (e d : ℕ) → Invariant w → ((w.part e).phase ≡ Open → is_before_invalidating ((w.part e).stage d) ≡ false)
    → Labels.has_open_group (w.part e) d ≡ false
none_open w e d i shut = none_such (w.part e) d (λ g o s. go g o s (is_open (w.part e).phase) refl)
  where
    go : (g : ℕ) → is_open_group ((w.part e).host_group g) ≡ true → (w.part e).filed_under g ≡ d → (b : Bool) → is_open (w.part e).phase ≡ b → ⊥
    go g o s false c = absurd (cc (sym ((i.parts e).resets.unfiled g c) ∙ o))
    go g o s true c =
        let ph = opened_is (w.part e).phase c in
        absurd (cc (sym (shut ph) ∙ ap (λ z. is_before_invalidating ((w.part e).stage z)) (sym s) ∙ ((i.parts e).groups.open_group g ph o).1))

-- nor at another endpoint than the binding's
none_elsewhere : (w : World) (e d : ℕ) → Invariant w → w.endpoint_of d ≢ e → Labels.has_open_group (w.part e) d ≡ false
none_elsewhere w e d i ne = none_such (w.part e) d (λ g o s. absurd (ne (endpoint_of g o s)))
  where
    endpoint_of : (g : ℕ) → is_open_group ((w.part e).host_group g) ≡ true → (w.part e).filed_under g ≡ d → w.endpoint_of d ≡ e
    endpoint_of g o s =
        let filed = open_filed ((w.part e).host_group g) o in
        let under = (i.parts e).groups.under g filed in
        let made = group_made w.bindings (w.part e) (i.parts e).bounds g filed in
        ap w.endpoint_of (sym s ∙ under) ∙ i.one_endpoint e ((w.part e).asker g) ((i.parts e).groups.asker_bound g made)

none_seen :
    (w : World) (e d : ℕ) → Invariant w → Filings (w.part e) → e < w.config.endpoints → Labels.has_open_group (w.part e) d ≡ false
    → has_open_group (part_of (wire w) e) (number w.config.first d) ≡ false
none_seen w e d i fi l h =
    ap (λ p. has_open_group p (number w.config.first d)) (part_seen w e l)
    ∙ open_there w.config.first w.bindings d w.mappings (w.part e) (i.parts e).bounds fi
    ∙ h

pub open_at_home :
    (w : World) → Invariant w → ((e : ℕ) → Filings (w.part e)) → (k e : ℕ) (b : BindingWire) → IsKeptAt w k b → (e == b.endpoint) ≡ false
    → has_open_group (part_of (wire w) e) b.binding ≡ false
open_at_home w i fi k e b x ne = go (cases_lt e w.config.endpoints)
  where
    away : w.endpoint_of x.of ≢ e
    away h = absurd (cc (sym ne ∙ eq-eqb e b.endpoint (sym (ap (λ z. z.endpoint) x.seen ∙ h))))

    go : (e < w.config.endpoints) ⊎ (w.config.endpoints ≤ e) → has_open_group (part_of (wire w) e) b.binding ≡ false
    go (inl l) =
        ap (λ z. has_open_group (part_of (wire w) e) z.binding) x.seen
        ∙ none_seen w e x.of i (fi e) l (none_elsewhere w e x.of i away)
    go (inr m) =
        ap (λ p. has_open_group p b.binding) (tabulate_past w.config.endpoints (λ z. part_wire w.config.first w.mappings (w.part z)) e idle m)

-- where a job isn't responded to, the unit isn't open, or its binding isn't Live, Stopping or Draining
unanswered : (p : Phase) (s : Stage) → words.is_some (response (is_open p) s verdict.Invalid) ≡ false → p ≡ Open → is_before_invalidating s ≡ false
unanswered p s h e = by s (sym (ap (λ z. words.is_some (response (is_open z) s verdict.Invalid)) e) ∙ h)
  where
    by : (s : Stage) → words.is_some (response true s verdict.Invalid) ≡ false → is_before_invalidating s ≡ false
    by s h = grind arith

-- with a further test fewer pass
fewer_pass : (job : JobWire) (gs : List HostGroupWire) → list_any (λ g. g.binding == job.binding) gs ≡ false → list_any (is_of_job job) gs ≡ false
fewer_pass job [] h = refl
fewer_pass job (g ∷ gs) h = go (g.binding == job.binding) (g.index == job.index) (λ k. fewer_pass job gs k) h
  where
    go :
        (a b : Bool) → (list_any (λ z. z.binding == job.binding) gs ≡ false → list_any (is_of_job job) gs ≡ false)
        → (a || list_any (λ z. z.binding == job.binding) gs) ≡ false
        → ((a && b) || list_any (is_of_job job) gs) ≡ false
    go true b rest k = absurd (cc (k))
    go false b rest k = rest k

pub closed_where_dropped :
    (w : World) → Invariant w → ((e : ℕ) → Filings (w.part e)) → (x : ℕ) (job : JobWire)
    → held_by (wire w) x ≡ Some job
    → responds (wire w) job ≡ false
    → list_any (is_of_job job) (part_of (wire w) job.endpoint).host_groups ≡ false
closed_where_dropped w i fi x job h r =
    subst (λ z. list_any (is_of_job z) (part_of (wire w) z.endpoint).host_groups ≡ false) (sym z.seen)
    (fewer_pass (job_wire w z.of) (part_of (wire w) e).host_groups
    (none_seen w e (job_binding w z.of) i (fi e) (job_there w z.of i now)
    (none_open w e (job_binding w z.of) i (unanswered (w.part e).phase ((w.part e).stage (job_binding w z.of)) silent))))
  where
    z : IsInHand w x job
    z = in_hand w x job h

    e : ℕ
    e = (w.job z.of).endpoint

    now : InHandNow w z.of
    now = record { worker = x; held = z.held }

    silent : words.is_some (response (is_open (w.part e).phase) ((w.part e).stage (job_binding w z.of)) verdict.Invalid) ≡ false
    silent = sym (responds_there w z.of i now) ∙ ap (responds (wire w)) (sym z.seen) ∙ r

-- A request that waits to be filed: its index was given once the group that had it was answered.

active_before : (s : Stage) → is_active s ≡ false → is_before_invalidating s ≡ true → ⊥
active_before s h k = grind arith

-- so no group that is a job, or was one and is in a hand, is of its binding and index
none_kept :
    (ms : Mappings) (x m n e : ℕ) (p : Endpoint) (y g : ℕ) → PartInvariant ms x m n e p → p.page_request y ≡ Arrived → is_kept_group (p.host_group g) ≡ true
    → p.filed_under g ≡ p.asker (p.group_of y) → p.index g ≡ p.index (p.group_of y)
    → ⊥
none_kept ms x m n e p y g i ar k under index = by (is_open p.phase) refl
  where
    whole : p.phase ≡ Open → is_open_group (p.host_group g) ≡ true → is_whole (p.host_group g) ≡ true → ⊥
    whole ph o wh =
        let same = one_group ms x m n e p (p.group_of y) g i ph (i.lasts.out y ph (inr ar)) o index in
        whole_filed m p i.bounds i.lasts g wh y (sym same) ar

    stages : p.phase ≡ Open → (s : HostGroupState) → p.host_group g ≡ s → is_kept_group s ≡ true → ⊥
    stages ph Job h t = whole ph (ap is_open_group h) (ap is_whole h)
    stages ph (InHand v) h t = whole ph (ap is_open_group h) (ap is_whole h)
    stages ph (InHandDiscarded v) h t =
        active_before (p.stage (p.filed_under g)) (i.groups.discarded g v ph h)
        (ap (λ d. is_before_invalidating (p.stage d)) under ∙ i.groups.arrived_stage y ar)
    stages ph _ h t = absurd (cc (t))

    by : (b : Bool) → is_open p.phase ≡ b → ⊥
    by false c = absurd (i.resets.unarrived y c ar)
    by true c = stages (opened_is p.phase c) (p.host_group g) refl k

first_off : (first a b : ℕ) → first + a ≡ first + b → a ≡ b
first_off first a b h = omega (arith, h)

-- what a job of these labels has
its_labels : (e n i : ℕ) (job : JobWire) → is_job_of e n i job ≡ true → (job.endpoint ≡ e) × (job.binding ≡ n) × (job.index ≡ i)
its_labels e n i job t =
    let both = first_holds (job.endpoint == e && job.binding == n) (job.index == i) t in (
      eqb-true job.endpoint e (first_holds (job.endpoint == e) (job.binding == n) both),
      eqb-true job.binding n (second_holds (job.endpoint == e) (job.binding == n) both),
      eqb-true job.index i (second_holds (job.endpoint == e && job.binding == n) (job.index == i) t),
    )

pub none_of_waiting :
    (w : World) → Invariant w → (e k : ℕ) (r : PageRequestWire) (b : BindingWire)
    → e < w.config.endpoints
    → slice_get (part_of (wire w) e).page_queue k ≡ Some r
    → bearer (wire w) e r.pasid ≡ Some b
    → HasNoJob (wire w).jobs (wire w).hands e b.binding r.index
none_of_waiting w i e k r b l h f =
    record {
      queued =
          any_seen w.jobs (Labels.is_queued_job w) (job_wire w) (is_job_of e b.binding r.index)
          ∙ none_below w.jobs (λ j. Labels.is_queued_job w j && is_job_of e b.binding r.index (job_wire w j))
          (λ j m. false_from_ne_true (Labels.is_queued_job w j && is_job_of e b.binding r.index (job_wire w j))
          (λ t. clash j
          (job_kept (state j) (first_holds (Labels.is_queued_job w j) (is_job_of e b.binding r.index (job_wire w j)) t))
          (second_holds (Labels.is_queued_job w j) (is_job_of e b.binding r.index (job_wire w j)) t)));
      held =
          λ v job m.
          let z = in_hand w v job m in
          false_from_ne_true (is_job_of e b.binding r.index job)
          (λ t. clash z.of (held_kept (state z.of) v (i.hands.held v z.of z.held)) (ap (is_job_of e b.binding r.index) (sym z.seen) ∙ t));
    }
  where
    x : IsWaitingAt w e k r
    x = waiting_at w e k r l h

    y : ℕ
    y = (w.part e).arrival x.of

    d : ℕ
    d = (w.part e).asker ((w.part e).group_of y)

    arrived : (w.part e).page_request y ≡ Arrived
    arrived = arrived_is ((w.part e).page_request y) x.passes

    bears : bearer (wire w) e r.pasid ≡ Some (binding_wire w.config.first e (w.part e) d)
    bears =
        ap (λ z. bearer (wire w) e z.pasid) x.seen
        ∙ bearer_found w e d i (before_unreleased ((w.part e).stage d) ((i.parts e).groups.arrived_stage y arrived))

    its : b.binding ≡ number w.config.first d
    its = ap (λ z. z.binding) (one_of b (binding_wire w.config.first e (w.part e) d) (sym f ∙ bears))

    state : ℕ → HostGroupState
    state j = (w.part (w.job j).endpoint).host_group (w.job j).group

    clash : (j : ℕ) → is_kept_group (state j) ≡ true → is_job_of e b.binding r.index (job_wire w j) ≡ true → ⊥
    clash j kept t =
        let (here, binding, index) = its_labels e b.binding r.index (job_wire w j) t in
        none_kept w.mappings w.config.endpoints w.bindings w.messages e (w.part e) y (w.job j).group (i.parts e) arrived
        (ap (λ z. is_kept_group ((w.part z).host_group (w.job j).group)) (sym here) ∙ kept)
        (ap (λ z. (w.part z).filed_under (w.job j).group) (sym here)
        ∙ first_off w.config.first ((w.part (w.job j).endpoint).filed_under (w.job j).group) d (binding ∙ its))
        (ap (λ z. (w.part z).index (w.job j).group) (sym here) ∙ index ∙ ap (λ z. z.index) x.seen)
