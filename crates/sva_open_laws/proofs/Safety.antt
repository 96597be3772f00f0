-- A world of this project's own host is safe, seen as an open one.
use Rattle.std.proofs.Common.{◌≡◌, ◌≢◌, ◌⊎◌, inl, inr, refl, ap, sym, subst, ◌∙◌, ℕ, ◌<◌, ◌≤◌, Bool, true, false, arith}
use Rattle.std.specs.Prelude.{not, Option, Some, None, option_map, Contains, slice_get, IfSome}
use Rattle.std.proofs.lemmas.List.Elements.{Contains-append_cases}
use Rattle.std.proofs.lemmas.Option.{slice_get_within}
use Rattle.sva_labels.proofs.Lists.{tabulate_length}
use Rattle.sva_model.specs.Message.{Code}
use Rattle.sva_model.specs.Words.{tabulate}
use Rattle.sva_model.specs.State.{Stage, PasidState, RequestState, UseState, GroupState, OrderState, Subject, Phase, Endpoint}
use Rattle.sva_model.specs.State.{World}
use Rattle.sva_model.specs.State.PasidState.{Off}
use Rattle.sva_model.specs.State.RequestState.{Out}
use Rattle.sva_model.specs.State.UseState.{Running}
use Rattle.sva_model.specs.State.PageRequestState.{Arrived}
use Rattle.sva_model.specs.State.OrderState.{Queued, Sent, Taken, Lapsed, Completing, Done, Void}
use Rattle.sva_model.specs.State.Subject.{StartOf, StopOf, FunctionReset, CompletionOf, InvalidateOf, ResponseOf, RequestOf, InvalidatedOf}
use Rattle.sva_model.specs.State.Subject.{PageRequestOf, MarkerOf, ResetDone}
use Rattle.sva_model.specs.State.Phase.{Open, ResetSent, Cleared}
use Rattle.sva_model.specs.States.{is_open, is_out, is_running, is_arrived, is_collecting, is_open_group, is_free, is_free_place, place}
use Rattle.sva_model.specs.States.{is_unreleased, is_live_stage, is_off}
use Rattle.sva_model.specs.States.Place.{Withheld}
use Rattle.sva_model.specs.Claims.{Usable, IsBearer}
use Rattle.sva_model.specs.Claims.{IsPresent as IsThere}
use Rattle.sva_model.specs.Claims.Usable.{cached, in_use, under_way}
use Rattle.sva_laws.proofs.Invariant.{Invariant}
use Rattle.sva_laws.proofs.Agreement.{usable, place_mapped, matched}
use Rattle.sva_laws.proofs.Found.{labelled, found}
use Rattle.sva_laws.proofs.Groups.{answerable_outstanding}
use Rattle.sva_laws.proofs.PageRequests.{arrived_is}
use Rattle.sva_laws.specs.UnderWay.{is_answerable}
use Rattle.sva_laws.specs.InReset.{IsInReset}
use Rattle.sva_open.specs.declared.frames.Translation.{Translation}
use Rattle.sva_open.specs.declared.rows.Entry.{Entry}
use Rattle.sva_open.specs.declared.rows.Row.{Row}
use Rattle.sva_open.specs.declared.works.Work.TheVariants.{Use}
use Rattle.sva_open.specs.declared.works.Request.{Request}
use Rattle.sva_open.specs.declared.messages.Sent.{Sent as Flying}
use Rattle.sva_open.specs.declared.descriptors.Received.TheVariants.{Request as Asked}
use Rattle.sva_open.specs.declared.descriptors.Arrived.{Arrived as Come}
use Rattle.sva_open.specs.declared.descriptors.Filed.{Filed}
use Rattle.sva_open.specs.World.{is_off as is_row_off}
use Rattle.sva_open.specs.Safe.{IsCurrent, IsPresent, IsGood, IsItsOwn, EndsItsGroup, IsRight, IsOwned, IsSafePart, IsSafe}
use Rattle.sva_open_laws.specs.AsOpen.{gather, if_there, where_so, owner_of, given_at, given_by, given_before, tenure_of, target_of, row_at}
use Rattle.sva_open_laws.specs.AsOpen.{translation_of, held_of, request_of, is_doomed, use_of, taken_of, part_of, open_of}
use Rattle.sva_open_laws.specs.AsOpen.{entry_of, entered_of, marked_of, user_of, is_marked, state_of, user_by, owner_by, is_filed}
use Rattle.sva_open_laws.specs.AsOpen.{group_of, time_by, ended_of, sent_of, flying_of, arrived_of, filed_of}
use Rattle.sva_open_laws.proofs.Gathered.{gathered, tabulated, tabulate_get, there_in, so_in, mapped_some, none_in, one_in, selected}
use Rattle.sva_open_laws.proofs.Gathered.{inside, oldest_in, first_is}

-- ---- frames

-- what is usable leads to a frame that isn't free
not_free : (w : World) (e b q m : ℕ) → Invariant w → Usable w e b q m → is_free w (w.mappings.frame m) ≡ false
not_free w e b q m i u = go (usable w e b q m i u).1
  where
    go : IsThere w e b q m ⊎ (place w (w.mappings.frame m) ≡ Withheld) → is_free w (w.mappings.frame m) ≡ false
    go (inl x) =
        ap is_free_place (place_mapped w (w.mappings.frame m) i (record {
          space = (w.part e).space b;
          page = q;
          is_at = record { live = x.live; mapping = x.there; maps = x.maps; leads = x.frame };
        }))
    go (inr y) = ap is_free_place y

-- so its tenure is the frame's
pub current : (w : World) (e b q m : ℕ) → Invariant w → Usable w e b q m → IsCurrent (tabulate w.config.frames (tenure_of w)) (target_of w.mappings m)
current w e b q m i u =
    let f = w.mappings.frame m in
    let la = (usable w e b q m i u).0 in
    record {
      now = tenure_of w f;
      found = tabulate_get w.config.frames (tenure_of w) f (i.mapped.low m (i.mapped.named f m la).1);
      given = sym (ap (given_at w f) la ∙ ap (λ z. given_by z (given_before w.mappings f m)) (not_free w e b q m i u));
      frozen = λ write. refl;
    }

-- ---- owners

-- a binding that bears its PASID is the owner that the PASID has
pub owned : (w : World) (e : ℕ) (p : Endpoint) (b : ℕ) → p.pasid b ≤ 32 → IsBearer p b → IsPresent (part_of w e p) (p.pasid b) (owner_of p b)
owned w e p b low is =
    record {
      row = row_at w.bindings p (p.pasid b);
      found = tabulate_get 33 (row_at w.bindings p) (p.pasid b) (omega (arith, low));
      same = sym (ap (owner_by w.bindings p (p.pasid b)) is.bears);
    }

pub bearer_owned : (w : World) (e b : ℕ) → Invariant w → IsBearer (w.part e) b → IsPresent (part_of w e (w.part e)) ((w.part e).pasid b) (owner_of (w.part e) b)
bearer_owned w e b i is = owned w e (w.part e) b ((labelled w e i).pasid_low b is.unreleased).1 is

-- ---- translations

good : (w : World) (e b q m : ℕ) → Invariant w → Usable w e b q m → IsBearer (w.part e) b
    → IsGood (open_of w).frames (part_of w e (w.part e)) (translation_of w.mappings (w.part e) b q m)
good w e b q m i u is = record { frame = current w e b q m i u; owner = bearer_owned w e b i is }

pub held : (w : World) (e : ℕ) → Invariant w → (t : Translation) → Contains (part_of w e (w.part e)).held t
    → IsGood (open_of w).frames (part_of w e (w.part e)) t
held w e i t h =
    let p = w.part e in
    let x = gathered p.requests (λ r. if_there (held_of w.mappings p r)) t h in
    let y = mapped_some (translation_of w.mappings p (p.request_binding x.0) (p.request_page x.0)) (p.held x.0) t
    (there_in (held_of w.mappings p x.0) t x.2) in
    subst (λ z. IsGood (open_of w).frames (part_of w e p) z) y.2
    (good w e (p.request_binding x.0) (p.request_page x.0) y.0 i (cached x.0 y.0 y.1) ((found w e i).cached x.0 y.0 y.1))

pub running_is : (s : UseState) → is_running s ≡ true → s ≡ Running
running_is s h = grind arith

no_use : (p : Endpoint) (s : OrderState) (k : ℕ) (t : Translation) → Contains (taken_of p s k) (Use t) → ⊥
no_use p Queued k t h = none_in (Use t) h
no_use p Sent k t h = none_in (Use t) h
no_use p (Taken uses) k t h = let e = one_in _ (Use t) h in absurd (cc)
no_use p Lapsed k t h = none_in (Use t) h
no_use p (Completing count left) k t h = none_in (Use t) h
no_use p Done k t h = none_in (Use t) h
no_use p Void k t h = none_in (Use t) h

used_is : (a b : Translation) → Use a ≡ Use b → a ≡ b
used_is a b e = cc

pub in_use_good : (w : World) (e : ℕ) → Invariant w → (t : Translation) → Contains (part_of w e (w.part e)).works (Use t)
    → IsGood (open_of w).frames (part_of w e (w.part e)) t
in_use_good w e i t h =
    go (Contains-append_cases (gather p.uses (λ u. where_so (is_running (p.use_state u)) (use_of w.mappings p u)))
    (gather p.orders (λ k. taken_of p (p.order_state k) k)) (Use t) h)
  where
    p : Endpoint
    p = w.part e

    go : Contains (gather p.uses (λ u. where_so (is_running (p.use_state u)) (use_of w.mappings p u))) (Use t)
        ⊎ Contains (gather p.orders (λ k. taken_of p (p.order_state k) k)) (Use t) → IsGood (open_of w).frames (part_of w e p) t
    go (inl k) =
        let x = gathered p.uses (λ u. where_so (is_running (p.use_state u)) (use_of w.mappings p u)) (Use t) k in
        let y = so_in (is_running (p.use_state x.0)) (use_of w.mappings p x.0) (Use t) x.2 in
        let runs = running_is (p.use_state x.0) y.0 in
        let m = p.use_mapping x.0 in
        subst (λ z. IsGood (open_of w).frames (part_of w e p) z)
        (used_is (translation_of w.mappings p (p.use_binding x.0) (w.mappings.page m) m) t y.1)
        (good w e (p.use_binding x.0) (w.mappings.page m) m i (in_use x.0 runs) ((found w e i).in_use x.0 runs))
    go (inr k) =
        let x = gathered p.orders (λ o. taken_of p (p.order_state o) o) (Use t) k in
        absurd (no_use p (p.order_state x.0) x.0 t x.2)

-- ---- requests

out_is : (s : RequestState) → is_out s ≡ true → is_doomed s ≡ false → s ≡ Out
out_is s h k = grind arith

pub asked : (w : World) (e : ℕ) → Invariant w → (r : Request) → Contains (part_of w e (w.part e)).requests (Some r) → r.is_doomed ≡ false
    → IsPresent (part_of w e (w.part e)) r.pasid r.owner
asked w e i r h alive =
    let p = w.part e in
    let x = tabulated 32 (λ t. option_map (request_of p) (p.at_tag t)) (Some r) h in
    let y = mapped_some (request_of p) (p.at_tag x.0) r x.2 in
    subst (λ z. IsPresent (part_of w e p) z.pasid z.owner) y.2
    (bearer_owned w e (p.request_binding y.0) i ((found w e i).out y.0 (((labelled w e i).tag x.0 y.0).0 y.1).0).0)

-- ---- the PASIDs

-- whose it is of the bindings of a PASID that an unreleased one is, is its owner
owner_is : (w : World) (e t b : ℕ) → Invariant w → is_unreleased ((w.part e).stage b) ≡ true → (w.part e).pasid b ≡ t
    → owner_of (w.part e) b ≡ owner_by w.bindings (w.part e) t ((w.part e).at_pasid t)
owner_is w e t b i u same = sym (ap (owner_by w.bindings (w.part e) t) (((labelled w e i).pasid t b).1 (u, same)))

pub live_is : (s : Stage) → is_live_stage s ≡ true → is_unreleased s ≡ true
live_is s h = grind arith

pub marked_is : (s : Stage) → is_marked s ≡ true → is_unreleased s ≡ true
marked_is s h = grind arith

pub started_is : (s : PasidState) → not (is_off s) ≡ true → s ≢ Off
started_is s h e = grind arith

not_true_false : (b : Bool) → not b ≡ true → b ≡ true → ⊥
not_true_false true h k = absurd (cc)
not_true_false false h k = absurd (cc)

pub row_owned : (w : World) (e t : ℕ) → Invariant w → IsOwned (open_of w).freed (row_at w.bindings (w.part e) t)
row_owned w e t i =
    record {
      entry = λ en h. let x = entry en h in ap (λ z. z.owner) (sym x.2) ∙ owner_is w e t x.0 i (live_is (p.stage x.0) x.1.0) x.1.1;
      walked = λ en h k.
          let x = entry en h in
          not_true_false (w.is_live en.space) (selected w.spaces (λ s. not (w.is_live s)) en.space k)
          (subst (λ (z : Entry). w.is_live z.space ≡ true) x.2 (i.mapped.bound_live e x.0 (live_is (p.stage x.0) x.1.0)));
      answer = λ o h.
          let x = mapped_some (owner_of p) (marked_of w.bindings p t) o h in
          let y = first_is w.bindings p t (λ b. is_marked (p.stage b)) x.0 x.1 in
          sym x.2 ∙ owner_is w e t x.0 i (marked_is (p.stage x.0) y.1) y.2;
      user = λ h. user (user_of w.bindings p t) refl h;
    }
  where
    p : Endpoint
    p = w.part e

    entry : (en : Entry) → option_map (entry_of p) (entered_of w.bindings p t) ≡ Some en
        → (b : ℕ) × ((is_live_stage (p.stage b) ≡ true) × (p.pasid b ≡ t)) × (entry_of p b ≡ en)
    entry en h =
        let x = mapped_some (entry_of p) (entered_of w.bindings p t) en h in
        let y = first_is w.bindings p t (λ b. is_live_stage (p.stage b)) x.0 x.1 in
        (x.0, (y.1, y.2), x.2)

    user : (o : Option ℕ) → user_of w.bindings p t ≡ o → is_row_off (state_of p o) ≡ false
        → user_by p o ≡ owner_by w.bindings p t (p.at_pasid t)
    user None at h = absurd (cc)
    user (Some b) at h =
        let y = first_is w.bindings p t (λ x. not (is_off (p.pasid_state x))) b at in
        owner_is w e t b i ((found w e i).started b (started_is (p.pasid_state b) y.1)).unreleased y.2

pub rows : (w : World) (e : ℕ) → Invariant w → (r : Row) → Contains (part_of w e (w.part e)).rows r → IsOwned (open_of w).freed r
rows w e i r h =
    let x = tabulated 33 (row_at w.bindings (w.part e)) r h in
    subst (λ z. IsOwned (open_of w).freed z) x.2 (row_owned w e x.0 i)

-- ---- what is in flight

open_by : (f : Phase) → is_open f ≡ true → f ≡ Open
open_by f h = grind arith

-- where no reset has come that isn't over, as many have come as are over
time_is : (f : Phase) (n : ℕ) → ((o : ℕ) → f ≢ Cleared o) → n ≡ time_by f n
time_is Open n h = refl
time_is (ResetSent c) n h = refl
time_is (Cleared c) n h = absurd (h c refl)

-- which request bears a tag
at_its_tag : (p : Endpoint) (tag : ℕ) (r : Request) → slice_get (tabulate 32 (λ t. option_map (request_of p) (p.at_tag t))) tag ≡ Some (Some r)
    → (k : ℕ) × (p.at_tag tag ≡ Some k) × (request_of p k ≡ r)
at_its_tag p tag r h =
    let all : ℕ → Option Request = λ t. option_map (request_of p) (p.at_tag t) in
    let low : tag < 32 = subst (λ z. tag < z) (tabulate_length 32 all) (slice_get_within (tabulate 32 all) tag (Some r) h) in
    mapped_some (request_of p) (p.at_tag tag) r (inside (sym (tabulate_get 32 all tag low) ∙ h))

completion : (w : World) (e c r : ℕ) (o : Option ℕ) → Invariant w → (w.part e).message c ≡ Some (CompletionOf r o) → (one : Flying)
    → one.number ≡ (w.part e).resets → (q : Request) → slice_get (part_of w e (w.part e)).requests ((w.part e).request_tag r) ≡ Some (Some q)
    → IsItsOwn (open_of w).frames (part_of w e (w.part e)) one ((w.part e).request_page r) (option_map (target_of w.mappings) o) q
completion w e c r o i h one same q at =
    record {
      time = same ∙ time_is p.phase p.resets there;
      same = ap p.request_page its ∙ ap (λ z. z.page) y.2;
      frame = λ alive. frame_of o h (ap is_doomed refl ∙ (ap (λ z. is_doomed (p.request z)) its ∙ (ap (λ z. z.is_doomed) y.2 ∙ alive)));
    }
  where
    p : Endpoint
    p = w.part e

    y : (k : ℕ) × (p.at_tag (p.request_tag r) ≡ Some k) × (request_of p k ≡ q)
    y = at_its_tag p (p.request_tag r) q at

    is_there : is_out (p.request y.0) ≡ true
    is_there = (((labelled w e i).tag (p.request_tag r) y.0).0 y.1).0

    there : (x : ℕ) → p.phase ≢ Cleared x
    there x k = let z = (found w e i).none_out x y.0 k in absurd (cc (sym is_there ∙ z))

    its : r ≡ y.0
    its = inside (sym ((found w e i).completion c r o there h) ∙ y.1)

    frame_of : (f : Option ℕ) → p.message c ≡ Some (CompletionOf r f) → is_doomed (p.request r) ≡ false
        → IfSome (option_map (target_of w.mappings) f) (IsCurrent (open_of w).frames)
    frame_of None k alive = tt
    frame_of (Some m) k alive =
        current w e (p.request_binding r) (p.request_page r) m i
        (under_way c r m k (out_is (p.request r) (subst (λ z. is_out (p.request z) ≡ true) (sym its) is_there) alive))

finished_is : (s : GroupState) → is_answerable s ≡ true → not (is_collecting s) ≡ true
finished_is s h = grind arith

response : (w : World) (e c g : ℕ) (code : Code) → Invariant w → (w.part e).message c ≡ Some (ResponseOf g code) → (one : Flying) → one.number ≡ g
    → EndsItsGroup (part_of w e (w.part e)) one ((w.part e).index g)
response w e c g code i h one same =
    let p = w.part e in
    let gr = (i.parts e).groups in
    let x = gr.response c g code h in
    let at = gr.bears_index g (answerable_outstanding (p.group g) x.0) in
    record {
      group = group_of p g;
      found = tabulate_get 32 (λ t. option_map (group_of p) (p.at_index t)) (p.index g) (gr.index_low (p.index g) g at)
          ∙ ap (λ z. Some (option_map (group_of p) z)) at;
      number = same;
      finished = finished_is (p.group g) x.0;
    }

abbrev FliesRight : World → (e : ℕ) → Flying → Type 0
FliesRight w e one = IsRight (open_of w).settings (open_of w).frames (part_of w e (w.part e)) one one.message

named_right : (w : World) (e : ℕ) (p : Endpoint) (names : Bool) (k : ℕ) (one : Flying) → Contains (ended_of p names k) one
    → IsRight (open_of w).settings (open_of w).frames (part_of w e p) one one.message
named_right w e p true k one h = subst (λ z. IsRight (open_of w).settings (open_of w).frames (part_of w e p) z z.message) (one_in _ one h) tt
named_right w e p false k one h = absurd (none_in one h)

right : (w : World) (e c : ℕ) (s : Subject) → Invariant w → (w.part e).message c ≡ Some s → (one : Flying) → Contains (sent_of w.mappings (w.part e) s) one
    → FliesRight w e one
right w e c (StartOf b) i h one k =
    subst (FliesRight w e) (one_in _ one k) (λ stays. bearer_owned w e b i ((found w e i).start c b h))
right w e c (StopOf b) i h one k =
    subst (FliesRight w e) (one_in _ one k) (λ stays. bearer_owned w e b i ((found w e i).stop c b h))
right w e c FunctionReset i h one k = subst (FliesRight w e) (one_in _ one k) tt
right w e c (CompletionOf r o) i h one k =
    subst (FliesRight w e) (one_in _ one k) (completion w e c r o i h _ refl)
right w e c (InvalidateOf o) i h one k = subst (FliesRight w e) (one_in _ one k) tt
right w e c (ResponseOf g code) i h one k =
    subst (FliesRight w e) (one_in _ one k)
    (inl (ap is_filed ((i.parts e).groups.response c g code h).1, response w e c g code i h _ refl))
right w e c (RequestOf r) i h one k = subst (FliesRight w e) (one_in _ one k) tt
right w e c (InvalidatedOf names) i h one k =
    let x = gathered (w.part e).orders (λ o. ended_of (w.part e) (names o) o) one k in
    named_right w e (w.part e) (names x.0) x.0 one x.2
right w e c (PageRequestOf r) i h one k =
    subst (FliesRight w e) (one_in _ one k)
    (λ ph. bearer_owned w e ((w.part e).asker ((w.part e).group_of r)) i ((matched w e i).in_flight c r (open_by (w.part e).phase ph) h))
right w e c (MarkerOf b) i h one k =
    subst (FliesRight w e) (one_in _ one k)
    (λ ph. bearer_owned w e b i ((matched w e i).marker c b (open_by (w.part e).phase ph) h))
right w e c ResetDone i h one k = subst (FliesRight w e) (one_in _ one k) tt

flies_right : (w : World) (e c : ℕ) (o : Option Subject) → Invariant w → (w.part e).message c ≡ o → (one : Flying)
    → Contains (flying_of w.mappings (w.part e) o) one → FliesRight w e one
flies_right w e c None i h one k = absurd (none_in one k)
flies_right w e c (Some s) i h one k = right w e c s i h one k

pub flight : (w : World) (e : ℕ) → Invariant w → (one : Flying) → Contains (part_of w e (w.part e)).flight one
    → FliesRight w e one
flight w e i one h =
    let x = gathered w.messages (λ c. flying_of w.mappings (w.part e) ((w.part e).message c)) one h in
    flies_right w e x.0 ((w.part e).message x.0) i refl one x.2

-- ---- the page requests

not_open : (f : Phase) → is_open f ≡ false → f ≡ Open → ⊥
not_open f h k = absurd (cc (sym h ∙ ap is_open k))

-- a page request that has arrived is at an open unit
arrived_open : (p : Endpoint) (r : ℕ) → IsInReset p → p.page_request r ≡ Arrived → p.phase ≡ Open
arrived_open p r z h = go (is_open p.phase) refl
  where
    go : (b : Bool) → is_open p.phase ≡ b → p.phase ≡ Open
    go true e = open_by p.phase e
    go false e = absurd (z.unarrived r (not_open p.phase e) h)

come : (e : ℕ) (p : Endpoint) (one : Come)
    → Contains (gather p.arrivals (λ k. where_so (is_arrived (p.page_request (p.arrival k))) (arrived_of e p (p.arrival k)))) one
    → (r : ℕ) × (p.page_request r ≡ Arrived) × (arrived_of e p r ≡ one)
come e p one h =
    let x = gathered p.arrivals (λ k. where_so (is_arrived (p.page_request (p.arrival k))) (arrived_of e p (p.arrival k))) one h in
    let y = so_in (is_arrived (p.page_request (p.arrival x.0))) (arrived_of e p (p.arrival x.0)) one x.2 in
    (p.arrival x.0, arrived_is (p.page_request (p.arrival x.0)) y.0, y.1)

pub arrived : (w : World) (e : ℕ) → Invariant w → IsInReset (w.part e) → (one : Come) → Contains (part_of w e (w.part e)).arrived one
    → IsPresent (part_of w e (w.part e)) one.request.pasid one.owner
arrived w e i z one h =
    let p = w.part e in
    let x = come e p one h in
    subst (λ y. IsPresent (part_of w e p) y.request.pasid y.owner) x.2
    (bearer_owned w e (p.asker (p.group_of x.0)) i ((matched w e i).arrived x.0 (arrived_open p x.0 z x.1) x.1))

pub joined : (w : World) (e : ℕ) → Invariant w → IsInReset (w.part e) → (one : Come) (f : Filed)
    → slice_get (part_of w e (w.part e)).arrived 0 ≡ Some one → Contains (part_of w e (w.part e)).filed f → f.index ≡ one.request.index → f.number ≡ one.number
joined w e i z one f h k same =
    let p = w.part e in
    let x = come e p one (oldest_in (part_of w e p).arrived one h) in
    let y = gathered p.groups (λ g. where_so (is_open_group (p.host_group g)) (filed_of p g)) f k in
    let v = so_in (is_open_group (p.host_group y.0)) (filed_of p y.0) f y.2 in
    let ph = arrived_open p x.0 z x.1 in
    let own = (found w e i).open_group y.0 ph v.0 in
    let its = (found w e i).page_request x.0 ph (inr x.1) in
    let index : p.index y.0 ≡ p.index (p.group_of x.0) = ap (λ z. z.index) v.1 ∙ same ∙ sym (ap (λ z. z.request.index) x.2) in
    sym (ap (λ z. z.number) v.1) ∙ inside (sym own ∙ ap p.at_index index ∙ its) ∙ ap (λ z. z.number) x.2

-- ---- the whole

pub safe_part : (w : World) (e : ℕ) → Invariant w → IsInReset (w.part e)
    → IsSafePart (open_of w).settings (open_of w).frames (open_of w).freed (open_of w).domains (part_of w e (w.part e))
safe_part w e i z =
    record {
      held = held w e i;
      in_use = in_use_good w e i;
      asked = asked w e i;
      flight = flight w e i;
      arrived = λ one h own. arrived w e i z one h;
      joined = λ one f h own k part_filed pasid index. joined w e i z one f h k index;
      received = λ one h own. absurd (none_in (Asked one) h);
      filed = λ works. absurd (cc works);
      served = λ works. absurd (cc works);
      rows = rows w e i;
      kept = λ t h. absurd (none_in t h);
      kept_entries = λ t h. absurd (none_in t h);
      walked = λ t h k. absurd (none_in t h);
    }

pub safe : (w : World) → Invariant w → ((e : ℕ) → IsInReset (w.part e)) → IsSafe (open_of w)
safe w i z =
    record {
      parts = λ part h.
          let x = tabulated w.config.endpoints (λ e. part_of w e (w.part e)) part h in
          subst (λ y. IsSafePart (open_of w).settings (open_of w).frames (open_of w).freed (open_of w).domains y) x.2 (safe_part w x.0 i (z x.0));
    }
