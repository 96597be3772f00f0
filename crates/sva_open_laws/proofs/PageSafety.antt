-- A moment is safe exactly where the world of each page is.
use Rattle.std.proofs.Common.{◌≡◌, ◌∙◌, ℕ, zero, suc, Bool, true, false, Option, Some, None, List, [], ◌∷◌, map, refl, ap, sym, arith}
use Rattle.std.proofs.lemmas.Bool.{and_from, and_parts}
use Rattle.std.proofs.lemmas.Bool.Decides.{nat_tests}
use Rattle.std.specs.Prelude.{◌==◌, ◌||◌, if◌then◌else◌, slice_get, filter}
use Rattle.std.specs.List.{list_all}
use Rattle.sva_open.specs.declared.frames.Tenure.{Tenure}
use Rattle.sva_open.specs.declared.frames.Target.{Target}
use Rattle.sva_open.specs.declared.messages.Message.{Message}
use Rattle.sva_open.specs.declared.messages.Message.TheVariants as message
use Rattle.sva_open.specs.declared.messages.Sent.{Sent}
use Rattle.sva_open.specs.declared.works.Request.{Request}
use Rattle.sva_open.specs.declared.works.Work.{Work}
use Rattle.sva_open.specs.declared.works.Work.TheVariants.{Use, Taken, Draining}
use Rattle.sva_open.specs.declared.settings.Settings.{Settings}
use Rattle.sva_open.specs.declared.acts.Act.{Act}
use Rattle.sva_open.specs.declared.acts.Act.TheVariants as act
use Rattle.sva_open.specs.declared.acts.LocalAct.{LocalAct}
use Rattle.sva_open.specs.declared.acts.LocalAct.TheVariants as local
use Rattle.sva_open.specs.World.{Open, Part}
use Rattle.sva_open.specs.Checks.{is_good, is_good_arrived, is_good_entry, is_good_kept, is_good_request, is_good_work, is_its_own, is_owned}
use Rattle.sva_open.specs.Checks.{are_good_filed, is_good_received, is_right, is_right_sent, is_safe, is_safe_device, is_safe_for_workers}
use Rattle.sva_open.specs.Checks.{is_safe_part, is_safe_unit, joins_own_group, may_be_held}
use Rattle.sva_open_laws.specs.Pages.{AreSafeApart, is_at, is_work_at, its_message, its_part, its_sent, its_world, target_if}
use Rattle.sva_open_laws.proofs.Filters.{left}
use Rattle.sva_open_laws.proofs.PageLinks.{IsTagged, IsTaggedAt}
use Rattle.sva_open_laws.proofs.PageWorlds.{IsTaggedBefore, IsTaggedFor, IsTaggedIn}

-- ---- what is tested of each element, by its page

all_apart : {A : Type 0} (q : A → Bool) (r : ℕ → A → Bool) (f : ℕ → A → A) (choose : A → ℕ)
    → ((x : A) → r (choose x) (f (choose x) x) ≡ true → q x ≡ true) → (xs : List A)
    → ((page : ℕ) → list_all (r page) (map (f page) xs) ≡ true) → list_all q xs ≡ true
all_apart q r f choose so [] h = refl
all_apart q r f choose so (x ∷ xs) h =
    and_from (q x) (list_all q xs) (so x (and_parts _ _ (h (choose x))).0)
    (all_apart q r f choose so xs (λ page. (and_parts _ _ (h page)).1))

pub rest_by : {A : Type 0} (q : A → Bool) (x : A) (xs : List A) (b : Bool) → list_all q (if b then (x ∷ xs) else xs) ≡ true → list_all q xs ≡ true
rest_by q x xs true h = (and_parts _ _ h).1
rest_by q x xs false h = h

left_apart : {A : Type 0} (q : A → Bool) (p : ℕ → A → Bool) (choose : A → ℕ) → ((x : A) → p (choose x) x ≡ true) → (xs : List A)
    → ((page : ℕ) → list_all q (filter (p page) xs) ≡ true) → list_all q xs ≡ true
left_apart q p choose is [] h = refl
left_apart q p choose is (x ∷ xs) h =
    let own = sym (ap (list_all q) (left (p (choose x)) x xs (is x))) ∙ h (choose x) in
    and_from (q x) (list_all q xs) (and_parts _ _ own).0
    (left_apart q p choose is xs (λ page. rest_by q x (filter (p page) xs) (p page x) (h page)))

-- and the other way round: what all pass, those pass that are left, and what is made of them
all_of : {A : Type 0} (q r : A → Bool) (f : A → A) → ((x : A) → q x ≡ true → r (f x) ≡ true) → (xs : List A)
    → list_all q xs ≡ true → list_all r (map f xs) ≡ true
all_of q r f so [] h = refl
all_of q r f so (x ∷ xs) h =
    let each = and_parts _ _ h in
    and_from (r (f x)) (list_all r (map f xs)) (so x each.0) (all_of q r f so xs each.1)

left_by : {A : Type 0} (q : A → Bool) (x : A) (xs : List A) (b : Bool) → q x ≡ true → list_all q xs ≡ true
    → list_all q (if b then (x ∷ xs) else xs) ≡ true
left_by q x xs true h rest = and_from (q x) (list_all q xs) h rest
left_by q x xs false h rest = rest

left_of : {A : Type 0} (q p : A → Bool) (xs : List A) → list_all q xs ≡ true → list_all q (filter p xs) ≡ true
left_of q p [] h = refl
left_of q p (x ∷ xs) h =
    let each = and_parts _ _ h in
    left_by q x (filter p xs) (p x) each.0 (left_of q p xs each.1)

-- ---- pages

same_page : (page : ℕ) → (page == page) ≡ true
same_page page = grind (arith, nat_tests)

abbrev page_of_work : Work → ℕ
page_of_work (Use translation) = translation.page
page_of_work (Taken itag scope) = 0
page_of_work (Draining barrier) = 0

work_at : (work : Work) → is_work_at (page_of_work work) work ≡ true
work_at (Use translation) = same_page translation.page
work_at (Taken itag scope) = refl
work_at (Draining barrier) = refl

-- ---- what is in flight

abbrev page_of_message : Message → ℕ
page_of_message (message.Completion tag other target) = other
page_of_message _ = 0

-- where it is right in the world of its own page, it is right
right_by : (settings : Settings) (frames : List Tenure) (part : Part) (one : Sent) (its : Message)
    → is_right settings frames (its_part (page_of_message its) part) (its_sent (page_of_message its) one) (its_message (page_of_message its) its) ≡ true
    → is_right settings frames part one its ≡ true
right_by settings frames part one (message.Completion tag other target) h =
    sym (ap (λ b. is_its_own frames part one other (target_if b target) (slice_get part.requests tag)) (same_page other)) ∙ h
right_by settings frames part one (message.PageRequest request) h = h
right_by settings frames part one (message.Start pasid) h = h
right_by settings frames part one (message.Stop pasid) h = h
right_by settings frames part one message.Reset h = h
right_by settings frames part one (message.Invalidate itag scope) h = h
right_by settings frames part one (message.Response index fails filed) h = h
right_by settings frames part one (message.Request tag pasid other) h = h
right_by settings frames part one (message.Invalidated itag) h = h
right_by settings frames part one (message.Marker pasid) h = h
right_by settings frames part one (message.Status pasid) h = h
right_by settings frames part one message.ResetDone h = h
right_by settings frames part one (message.Barrier barrier) h = h
right_by settings frames part one (message.Passed barrier) h = h

-- what leads nowhere may be held
held_if : (frames : List Tenure) (doomed b : Bool) (target : Option Target) → doomed || may_be_held frames target ≡ true
    → doomed || may_be_held frames (target_if b target) ≡ true
held_if frames true b target h = refl
held_if frames false true target h = h
held_if frames false false target h = refl

its_own : (frames : List Tenure) (part : Part) (page : ℕ) (one : Sent) (other : ℕ) (target : Option Target) (b : Bool) (o : Option (Option Request))
    → is_its_own frames part one other target o ≡ true
    → is_its_own frames (its_part page part) (its_sent page one) other (target_if b target) o ≡ true
its_own frames part page one other target b None h = refl
its_own frames part page one other target b (Some None) h = refl
its_own frames part page one other target b (Some (Some request)) h =
    let each = and_parts _ _ h in
    and_from _ _ each.0 (held_if frames request.is_doomed b target each.1)

-- where it is right, it is so in the world of each page
right_in : (settings : Settings) (frames : List Tenure) (part : Part) (page : ℕ) (one : Sent) (its : Message)
    → is_right settings frames part one its ≡ true
    → is_right settings frames (its_part page part) (its_sent page one) (its_message page its) ≡ true
right_in settings frames part page one (message.Completion tag other target) h =
    its_own frames part page one other target (other == page) (slice_get part.requests tag) h
right_in settings frames part page one (message.PageRequest request) h = h
right_in settings frames part page one (message.Start pasid) h = h
right_in settings frames part page one (message.Stop pasid) h = h
right_in settings frames part page one message.Reset h = h
right_in settings frames part page one (message.Invalidate itag scope) h = h
right_in settings frames part page one (message.Response index fails filed) h = h
right_in settings frames part page one (message.Request tag pasid other) h = h
right_in settings frames part page one (message.Invalidated itag) h = h
right_in settings frames part page one (message.Marker pasid) h = h
right_in settings frames part page one (message.Status pasid) h = h
right_in settings frames part page one message.ResetDone h = h
right_in settings frames part page one (message.Barrier barrier) h = h
right_in settings frames part page one (message.Passed barrier) h = h

-- ---- a part

-- what is tested of a part, one by one
pub record IsTested (settings : Settings) (frames : List Tenure) (freed domains : List ℕ) (part : Part) : Type 0 where
  pub held : list_all (is_good frames part) part.held ≡ true
  pub works : list_all (is_good_work frames part) part.works ≡ true
  pub requests : list_all (is_good_request part) part.requests ≡ true
  pub arrived : list_all (is_good_arrived part) part.arrived ≡ true
  pub received : list_all (is_good_received part) part.received ≡ true
  pub filed : are_good_filed settings domains part ≡ true
  pub joined : joins_own_group part.endpoint part.filed (slice_get part.arrived 0) ≡ true
  pub kept : list_all (is_good_kept part) part.kept ≡ true
  pub entries : list_all (is_good_entry freed part) part.kept_entries ≡ true
  pub flight : list_all (is_right_sent settings frames part) part.flight ≡ true
  pub rows : list_all (is_owned freed) part.rows ≡ true

pub tested : (settings : Settings) (frames : List Tenure) (freed domains : List ℕ) (part : Part) → is_safe_part settings frames freed domains part ≡ true
    → IsTested settings frames freed domains part
tested settings frames freed domains part h =
    let a = and_parts (is_safe_device frames part) _ h in
    let d = and_parts (list_all (is_good frames part) part.held) _ a.0 in
    let e = and_parts (list_all (is_good_work frames part) part.works) _ d.1 in
    let b = and_parts (is_safe_unit freed part) _ a.1 in
    let u = and_parts (list_all (is_good_arrived part) part.arrived) _ b.0 in
    let v = and_parts (joins_own_group part.endpoint part.filed (slice_get part.arrived 0)) _ u.1 in
    let w = and_parts (list_all (is_good_kept part) part.kept) _ v.1 in
    let c = and_parts (is_safe_for_workers settings domains part) _ b.1 in
    let g = and_parts (list_all (is_good_received part) part.received) _ c.0 in
    let f = and_parts (list_all (is_right_sent settings frames part) part.flight) _ c.1 in
    record {
      held = d.0;
      works = e.0;
      requests = e.1;
      arrived = u.0;
      received = g.0;
      filed = g.1;
      joined = v.0;
      kept = w.0;
      entries = w.1;
      flight = f.0;
      rows = f.1;
    }

pub safe_of : (settings : Settings) (frames : List Tenure) (freed domains : List ℕ) (part : Part) → IsTested settings frames freed domains part
    → is_safe_part settings frames freed domains part ≡ true
safe_of settings frames freed domains part t =
    and_from _ _ (and_from _ _ t.held (and_from _ _ t.works t.requests))
    (and_from _ _ (and_from _ _ t.arrived (and_from _ _ t.joined (and_from _ _ t.kept t.entries)))
    (and_from _ _ (and_from _ _ t.received t.filed) (and_from _ _ t.flight t.rows)))

safe_by : (settings : Settings) (frames : List Tenure) (freed domains : List ℕ) (part : Part)
    → ((page : ℕ) → is_safe_part settings frames freed domains (its_part page part) ≡ true) → is_safe_part settings frames freed domains part ≡ true
safe_by settings frames freed domains part h =
    let t : (page : ℕ) → IsTested settings frames freed domains (its_part page part) =
    λ page. tested settings frames freed domains (its_part page part) (h page) in
    safe_of settings frames freed domains part (record {
      held = left_apart (is_good frames part) is_at (λ x. x.page) (λ x. same_page x.page) part.held (λ page. (t page).held);
      works = left_apart (is_good_work frames part) is_work_at page_of_work work_at part.works (λ page. (t page).works);
      requests = (t 0).requests;
      arrived = (t 0).arrived;
      received = (t 0).received;
      filed = (t 0).filed;
      joined = (t 0).joined;
      kept = left_apart (is_good_kept part) is_at (λ x. x.page) (λ x. same_page x.page) part.kept (λ page. (t page).kept);
      entries = (t 0).entries;
      flight = all_apart (is_right_sent settings frames part) (λ page. is_right_sent settings frames (its_part page part)) its_sent
          (λ one. page_of_message one.message) (λ one. right_by settings frames part one one.message) part.flight (λ page. (t page).flight);
      rows = (t 0).rows;
    })

safe_in : (settings : Settings) (frames : List Tenure) (freed domains : List ℕ) (page : ℕ) (part : Part)
    → is_safe_part settings frames freed domains part ≡ true
    → is_safe_part settings frames freed domains (its_part page part) ≡ true
safe_in settings frames freed domains page part h =
    let t = tested settings frames freed domains part h in
    safe_of settings frames freed domains (its_part page part) (record {
      held = left_of (is_good frames part) (is_at page) part.held t.held;
      works = left_of (is_good_work frames part) (is_work_at page) part.works t.works;
      requests = t.requests;
      arrived = t.arrived;
      received = t.received;
      filed = t.filed;
      joined = t.joined;
      kept = left_of (is_good_kept part) (is_at page) part.kept t.kept;
      entries = t.entries;
      flight = all_of (is_right_sent settings frames part) (is_right_sent settings frames (its_part page part)) (its_sent page)
          (λ one. right_in settings frames part page one one.message) part.flight t.flight;
      rows = t.rows;
    })

-- ---- the whole

parts_by : (settings : Settings) (frames : List Tenure) (freed domains : List ℕ) (parts : List Part)
    → ((page : ℕ) → list_all (is_safe_part settings frames freed domains) (map (its_part page) parts) ≡ true)
    → list_all (is_safe_part settings frames freed domains) parts ≡ true
parts_by settings frames freed domains [] h = refl
parts_by settings frames freed domains (part ∷ parts) h =
    and_from _ _ (safe_by settings frames freed domains part (λ page. (and_parts _ _ (h page)).0))
    (parts_by settings frames freed domains parts (λ page. (and_parts _ _ (h page)).1))

pub safe_whole : (now : Open) → ((page : ℕ) → is_safe (its_world page now) ≡ true) → is_safe now ≡ true
safe_whole now h = parts_by now.settings now.frames now.freed now.domains now.parts h

pub safe_apart : AreSafeApart
safe_apart now = (
  λ h page. all_of (is_safe_part now.settings now.frames now.freed now.domains) (is_safe_part now.settings now.frames now.freed now.domains) (its_part page)
      (safe_in now.settings now.frames now.freed now.domains page) now.parts h,
  safe_whole now,
)

-- ---- in a safe moment a completion is of the page of the request that has its tag

one_of : {A : Type 0} (q : A → Bool) (xs : List A) (at : ℕ) (x : A) → list_all q xs ≡ true → slice_get xs at ≡ Some x → q x ≡ true
one_of q [] at x h k = absurd (cc)
one_of q (y ∷ xs) zero x h k = let same : y ≡ x = cc in ap q (sym same) ∙ (and_parts _ _ h).0
one_of q (y ∷ xs) (suc at) x h k = one_of q xs at x (and_parts _ _ h).1 k

of_request : (frames : List Tenure) (part : Part) (one : Sent) (other : ℕ) (target : Option Target) (o : Option (Option Request)) (request : Request)
    → is_its_own frames part one other target o ≡ true → o ≡ Some (Some request) → (other == request.page) ≡ true
of_request frames part one other target None request h k = absurd (cc)
of_request frames part one other target (Some None) request h k = absurd (cc)
of_request frames part one other target (Some (Some own)) request h k =
    let same : own ≡ request = cc in
    ap (λ (r : Request). other == r.page) (sym same) ∙ (and_parts _ _ (and_parts _ _ h).0).1

tagged : (settings : Settings) (frames : List Tenure) (part : Part) (one : Sent) (its : Message) → is_right settings frames part one its ≡ true
    → IsTagged part its
tagged settings frames part one (message.Completion tag other target) h =
    λ request k. of_request frames part one other target (slice_get part.requests tag) request h k
tagged settings frames part one (message.PageRequest request) h = tt
tagged settings frames part one (message.Start pasid) h = tt
tagged settings frames part one (message.Stop pasid) h = tt
tagged settings frames part one message.Reset h = tt
tagged settings frames part one (message.Invalidate itag scope) h = tt
tagged settings frames part one (message.Response index fails filed) h = tt
tagged settings frames part one (message.Request tag pasid other) h = tt
tagged settings frames part one (message.Invalidated itag) h = tt
tagged settings frames part one (message.Marker pasid) h = tt
tagged settings frames part one (message.Status pasid) h = tt
tagged settings frames part one message.ResetDone h = tt
tagged settings frames part one (message.Barrier barrier) h = tt
tagged settings frames part one (message.Passed barrier) h = tt

tagged_at : (settings : Settings) (frames : List Tenure) (part : Part) (place : ℕ) (o : Option Sent)
    → list_all (is_right_sent settings frames part) part.flight ≡ true → slice_get part.flight place ≡ o → IsTaggedAt part o
tagged_at settings frames part place None h k = tt
tagged_at settings frames part place (Some one) h k =
    tagged settings frames part one one.message (one_of (is_right_sent settings frames part) part.flight place one h k)

tagged_for : (settings : Settings) (frames : List Tenure) (freed domains : List ℕ) (part : Part) (own : LocalAct)
    → is_safe_part settings frames freed domains part ≡ true → IsTaggedFor part own
tagged_for settings frames freed domains part (local.Deliver place) h =
    tagged_at settings frames part place (slice_get part.flight place) (tested settings frames freed domains part h).flight refl
tagged_for settings frames freed domains part _ h = tt

tagged_in : (now : Open) (at : ℕ) (own : LocalAct) (o : Option Part) → is_safe now ≡ true → slice_get now.parts at ≡ o → IsTaggedIn o own
tagged_in now at own None h k = tt
tagged_in now at own (Some part) h k =
    tagged_for now.settings now.frames now.freed now.domains part own
    (one_of (is_safe_part now.settings now.frames now.freed now.domains) now.parts at part h k)

pub safe_tagged : (now : Open) (one : Act) → is_safe now ≡ true → IsTaggedBefore now one
safe_tagged now act.Mark h = tt
safe_tagged now (act.At endpoint own) h = tagged_in now endpoint own (slice_get now.parts endpoint) h refl
safe_tagged now (act.SetPage space other frame write) h = tt
safe_tagged now (act.ClearPage space other) h = tt
safe_tagged now (act.FreeFrame frame) h = tt
safe_tagged now (act.Freeze frame) h = tt
safe_tagged now (act.FreeSpace space) h = tt
safe_tagged now (act.FreeDomain space) h = tt
