-- A page request is in flight once, then in the page request queue once; the last of a group stands behind all others.
use Rattle.std.proofs.Common.{◌≡◌, ◌≢◌, ◌⊎◌, inl, inr, ap, ◌∙◌, ℕ, ◌<◌, ◌≤◌, Bool, true, false, arith, sym}
use Rattle.std.specs.Prelude.{Some, None}
use Rattle.std.proofs.lemmas.Bool.Decides.{nat_tests}
use Rattle.sva_model.specs.Message.{Code}
use Rattle.sva_model.specs.State.{Mappings, Endpoint, HostGroupState, PageRequestState}
use Rattle.sva_model.specs.State.PageRequestState.{InFlight, Arrived, Filed, Dropped}
use Rattle.sva_model.specs.State.GroupState.{Collecting, Closed}
use Rattle.sva_model.specs.State.HostGroupState.{NotFiled, Job, InHand, Replied, InHandDiscarded}
use Rattle.sva_model.specs.State.Subject.{PageRequestOf, ResponseOf, ResetDone}
use Rattle.sva_model.specs.State.Phase.{Open, Cleared}
use Rattle.sva_model.specs.States.{is_outstanding, is_before_invalidating, is_arrived}
use Rattle.sva_model.specs.Acts.{act_alone, LocalAct}
use Rattle.sva_model.specs.Acts.LocalAct.{File, Reopen}
use Rattle.sva_laws.proofs.Legal.{LegalLocalAct}
use Rattle.sva_laws.proofs.Resets.{Resets}
use Rattle.sva_laws.proofs.Bounds.{Bounds}

pub arrived_is : (s : PageRequestState) → is_arrived s ≡ true → s ≡ Arrived
arrived_is s h = grind arith

pub record Queued (p : Endpoint) : Type 0 where
  pub in_flight : (c r : ℕ) → p.message c ≡ Some (PageRequestOf r) → (p.page_request r ≡ InFlight) × (p.page_request_message r ≡ c)
  pub message : (r : ℕ) → p.page_request r ≡ InFlight → p.message (p.page_request_message r) ≡ Some (PageRequestOf r)
  pub arrived : (r : ℕ) → p.page_request r ≡ Arrived → (p.arrived_as r < p.arrivals) × (p.arrival (p.arrived_as r) ≡ r)
  pub arrival : (k : ℕ) → k < p.arrivals → (p.arrived_as (p.arrival k) ≡ k) × (p.arrival k < p.page_requests)
  pub landed : (k : ℕ) → k < p.arrivals → p.page_request (p.arrival k) ≢ InFlight
  pub made : (r : ℕ) → p.page_request r ≡ InFlight → r < p.page_requests

-- no page request arrives twice
pub arrival_once : (p : Endpoint) → Queued p → (j k : ℕ) → j < p.arrivals → k < p.arrivals → p.arrival j ≡ p.arrival k → j ≡ k
arrival_once p qu j k a b e = sym (qu.arrival j a).0 ∙ ap p.arrived_as e ∙ (qu.arrival k b).0

pub queued : (ms : Mappings) (g n : ℕ) (p : Endpoint) (o : LocalAct) → LegalLocalAct ms g p o → Resets n p → Bounds g p → Queued p → Queued (act_alone p n o)
queued ms g n p o l re bo qu =
    record {
      in_flight = λ c r h. grind (arith, nat_tests, qu.in_flight c r, bo.requested c r, re.unsent c);
      message = λ r h. grind (arith, nat_tests, qu.message r, qu.made r, qu.in_flight, re.older, re.up, re.unsent (p.page_request_message r));
      arrived = λ r h. grind (arith, nat_tests, qu.arrived r, qu.in_flight, bo.page_request r);
      arrival = λ k h. grind (arith, nat_tests, qu.arrival k, qu.in_flight, qu.landed k, bo.requested);
      landed = λ k h. grind (arith, nat_tests, qu.landed k, qu.arrival k, qu.in_flight);
      made = λ r h. grind (arith, nat_tests, qu.made r);
    }

-- is each request of such a group filed?
abbrev pub is_whole : HostGroupState → Bool
is_whole Job = true
is_whole (InHand w) = true
is_whole Replied = true
is_whole _ = false

pub record Lasts (p : Endpoint) : Type 0 where
  pub last_group : (r : ℕ) → r < p.page_requests → p.is_last r ≡ true → p.group (p.group_of r) ≢ Collecting
  pub last_once : (r x : ℕ) → r < p.page_requests → x < p.page_requests → p.is_last r ≡ true → p.is_last x ≡ true → p.group_of r ≡ p.group_of x → r ≡ x
  pub last_flight : (c d l x : ℕ) → p.message c ≡ Some (PageRequestOf l) → p.is_last l ≡ true → p.message d ≡ Some (PageRequestOf x) → p.group_of x
      ≡ p.group_of l → d ≤ c
  pub last_arrived : (l x : ℕ) → p.page_request l ≡ Arrived → p.is_last l ≡ true → p.group_of x ≡ p.group_of l → p.page_request x ≢ InFlight
  pub last_order : (l x : ℕ) → p.page_request l ≡ Arrived → p.is_last l ≡ true → p.group_of x ≡ p.group_of l → p.page_request x ≡ Arrived
      → p.arrived_as x ≤ p.arrived_as l
  pub whole_group : (x : ℕ) → is_whole (p.host_group x) ≡ true → p.group x ≢ Collecting
  pub whole : (r : ℕ) → is_whole (p.host_group (p.group_of r)) ≡ true → r < p.page_requests → p.page_request r ≡ Filed
  pub kept : (r : ℕ) → p.phase ≡ Open → r < p.page_requests → is_outstanding (p.group (p.group_of r)) ≡ true → p.page_request r ≢ Dropped
  pub out : (r : ℕ) → p.phase ≡ Open → (p.page_request r ≡ InFlight) ⊎ (p.page_request r ≡ Arrived) → is_outstanding (p.group (p.group_of r)) ≡ true

last_group_kept : (ms : Mappings) (g n : ℕ) (p : Endpoint) (o : LocalAct) → LegalLocalAct ms g p o → (r : ℕ) → (r < p.page_requests → p.group_of r < p.groups)
    → (r < p.page_requests → p.is_last r ≡ true → p.group (p.group_of r) ≢ Collecting) → r < (act_alone p n o).page_requests
    → (act_alone p n o).is_last r ≡ true
    → (act_alone p n o).group ((act_alone p n o).group_of r) ≢ Collecting
last_group_kept ms g n p o l r bo old h i j = grind (arith, nat_tests)

either_made : (g : ℕ) (p : Endpoint) → Bounds g p → Queued p → (r : ℕ) → (p.page_request r ≡ InFlight) ⊎ (p.page_request r ≡ Arrived) → r < p.page_requests
either_made g p bo qu r (inl h) = qu.made r h
either_made g p bo qu r (inr h) = grind (arith, bo.page_request r)

last_once_kept : (ms : Mappings) (g n : ℕ) (p : Endpoint) (o : LocalAct) → LegalLocalAct ms g p o → (r x : ℕ) → (r < p.page_requests → p.group_of r < p.groups)
    → (x < p.page_requests → p.group_of x < p.groups) → (r < p.page_requests → p.is_last r ≡ true → p.group (p.group_of r) ≢ Collecting)
    → (x < p.page_requests → p.is_last x ≡ true → p.group (p.group_of x) ≢ Collecting)
    → (r < p.page_requests → x < p.page_requests → p.is_last r ≡ true → p.is_last x ≡ true → p.group_of r ≡ p.group_of x → r ≡ x) → r
    < (act_alone p n o).page_requests → x < (act_alone p n o).page_requests → (act_alone p n o).is_last r ≡ true → (act_alone p n o).is_last x ≡ true
    → (act_alone p n o).group_of r ≡ (act_alone p n o).group_of x → r ≡ x
last_once_kept ms g n p o l r x ir ix gr gx old h i j k e = grind (arith, nat_tests)

last_flight_kept : (ms : Mappings) (g n : ℕ) (p : Endpoint) (o : LocalAct) → LegalLocalAct ms g p o → (c d y x : ℕ)
    → (y < p.page_requests → p.group_of y < p.groups) → (x < p.page_requests → p.group_of x < p.groups) → (n ≤ c → p.message c ≡ None)
    → (n ≤ d → p.message d ≡ None) → (p.message c ≡ Some (PageRequestOf y) → y < p.page_requests)
    → (p.message d ≡ Some (PageRequestOf x) → x < p.page_requests) → (y < p.page_requests → p.is_last y ≡ true → p.group (p.group_of y) ≢ Collecting)
    → (p.message c ≡ Some (PageRequestOf y) → p.is_last y ≡ true → p.message d ≡ Some (PageRequestOf x) → p.group_of x ≡ p.group_of y → d ≤ c)
    → (act_alone p n o).message c ≡ Some (PageRequestOf y) → (act_alone p n o).is_last y ≡ true → (act_alone p n o).message d ≡ Some (PageRequestOf x)
    → (act_alone p n o).group_of x ≡ (act_alone p n o).group_of y → d ≤ c
last_flight_kept ms g n p o l c d y x iy ix uc ud my mx gy old h i j e = grind (arith, nat_tests)

last_arrived_kept : (ms : Mappings) (g n : ℕ) (p : Endpoint) (o : LocalAct) → LegalLocalAct ms g p o → (y x : ℕ)
    → (y < p.page_requests → p.group_of y < p.groups)
    → (x < p.page_requests → p.group_of x < p.groups) → (p.page_request y ≡ Arrived → y < p.page_requests)
    → (p.page_request x ≡ InFlight → x < p.page_requests) → (y < p.page_requests → p.is_last y ≡ true → p.group (p.group_of y) ≢ Collecting)
    → (p.page_request x ≡ InFlight → p.message (p.page_request_message x) ≡ Some (PageRequestOf x))
    → ((c : ℕ) → p.message c ≡ Some (PageRequestOf y) → p.is_last y ≡ true → p.message (p.page_request_message x) ≡ Some (PageRequestOf x)
    → p.group_of x ≡ p.group_of y → p.page_request_message x ≤ c) → ((c : ℕ) → p.message c ≡ Some (PageRequestOf y) → y < p.page_requests)
    → (p.page_request y ≡ Arrived → p.is_last y ≡ true → p.group_of x ≡ p.group_of y → p.page_request x ≢ InFlight) → (act_alone p n o).page_request y
    ≡ Arrived → (act_alone p n o).is_last y ≡ true → (act_alone p n o).group_of x ≡ (act_alone p n o).group_of y → (act_alone p n o).page_request x ≢ InFlight
last_arrived_kept ms g n p o l y x iy ix my mx gy ms' fl mm old h i e j = grind (arith, nat_tests)

last_order_kept : (ms : Mappings) (g n : ℕ) (p : Endpoint) (o : LocalAct) → LegalLocalAct ms g p o → (y x : ℕ)
    → (p.page_request x ≡ Arrived → p.arrived_as x < p.arrivals) → ((c : ℕ) → p.message c ≡ Some (PageRequestOf x) → p.page_request x ≡ InFlight)
    → (p.page_request y ≡ Arrived → y < p.page_requests) → (p.page_request x ≡ Arrived → x < p.page_requests)
    → (p.page_request y ≡ Arrived → p.is_last y ≡ true → p.group_of x ≡ p.group_of y → p.page_request x ≢ InFlight)
    → (p.page_request y ≡ Arrived → p.is_last y ≡ true → p.group_of x ≡ p.group_of y → p.page_request x ≡ Arrived → p.arrived_as x ≤ p.arrived_as y)
    → (act_alone p n o).page_request y ≡ Arrived → (act_alone p n o).is_last y ≡ true → (act_alone p n o).group_of x ≡ (act_alone p n o).group_of y
    → (act_alone p n o).page_request x ≡ Arrived → (act_alone p n o).arrived_as x ≤ (act_alone p n o).arrived_as y
last_order_kept ms g n p o l y x ax fx my mx na old h i e j = grind (arith, nat_tests)

-- a worker's answer is sent for a job that the host still has
abbrev pub HasJob : Endpoint → Type 0
HasJob p = (x w : ℕ) → p.phase ≡ Open → p.host_group x ≡ InHandDiscarded w → is_before_invalidating (p.stage (p.filed_under x)) ≡ false

whole_group_kept : (ms : Mappings) (g n : ℕ) (p : Endpoint) (o : LocalAct) → LegalLocalAct ms g p o → HasJob p
    → ((r : ℕ) → r < p.page_requests → p.is_last r ≡ true → p.group (p.group_of r) ≢ Collecting)
    → ((r : ℕ) → p.page_request r ≡ Arrived → r < p.page_requests) → (x : ℕ) → (p.groups ≤ x → p.host_group x ≡ NotFiled)
    → (is_whole (p.host_group x) ≡ true → p.group x ≢ Collecting) → is_whole ((act_alone p n o).host_group x) ≡ true → (act_alone p n o).group x ≢ Collecting
whole_group_kept ms g n p o l hj lg ar x bo old h i = grind (arith, nat_tests, hj x)

pub arrived_made : (g : ℕ) (p : Endpoint) → Bounds g p → (r : ℕ) → p.page_request r ≡ Arrived → r < p.page_requests
arrived_made g p bo r h = grind (arith, bo.page_request r)

-- filing the last of a group: every other request of it is filed
abbrev pub FilesLast : Endpoint → LocalAct → (r : ℕ) → Type 0
FilesLast p (File y) r = p.is_last y ≡ true → p.group_of r ≡ p.group_of y → (r ≡ y) ⊎ (p.page_request r ≡ Filed)
FilesLast p _ r = Unit {0}

alone : (p : Endpoint) (y r : ℕ) → p.page_request y ≡ Arrived → p.arrived_as y ≤ p.arrived_as r ⊎ (p.page_request r ≢ Arrived)
    → (p.page_request r ≡ Arrived → p.arrived_as r ≤ p.arrived_as y) → (p.page_request r ≡ Arrived → p.arrival (p.arrived_as r) ≡ r)
    → p.arrival (p.arrived_as y) ≡ y → p.page_request r ≢ InFlight → p.page_request r ≢ Dropped → (r ≡ y) ⊎ (p.page_request r ≡ Filed)
alone p y r h oldest ord inv invy nf nd = grind (arith)

is_arrived_cases : (p : Endpoint) (y r : ℕ) → (p.page_request r ≡ Arrived → p.arrived_as y ≤ p.arrived_as r) → p.arrived_as y ≤ p.arrived_as r
    ⊎ (p.page_request r ≢ Arrived)
is_arrived_cases p y r h = grind arith

file_last : (ms : Mappings) (g : ℕ) (p : Endpoint) (y : ℕ) → LegalLocalAct ms g p (File y) → Queued p → Lasts p → (r : ℕ) → r < p.page_requests
    → FilesLast p (File y) r
file_last ms g p y l qu la r b i e =
    let ay = qu.arrived y l.1 in
    let group_out = la.out y l.0 (inr l.1) in
    let same : is_outstanding (p.group (p.group_of r)) ≡ true = ap (λ x. is_outstanding (p.group x)) e ∙ group_out in
    alone p y r l.1 (is_arrived_cases p y r (l.2 r)) (la.last_order y r l.1 i e) (λ h. (qu.arrived r h).1) ay.1 (la.last_arrived y r l.1 i e)
    (la.kept r l.0 b same)

files_last : (ms : Mappings) (g : ℕ) (p : Endpoint) (o : LocalAct) → LegalLocalAct ms g p o → Queued p → Lasts p → (r : ℕ) → r < p.page_requests
    → FilesLast p o r
files_last ms g p (File y) l qu la r b = file_last ms g p y l qu la r b
files_last ms g p _ l qu la r b = tt

whole_kept : (ms : Mappings) (g n : ℕ) (p : Endpoint) (o : LocalAct) → LegalLocalAct ms g p o → HasJob p → (r : ℕ) → (r < p.page_requests → FilesLast p o r)
    → (p.host_group p.groups ≡ NotFiled) → (r < p.page_requests → p.group_of r < p.groups)
    → ((c : ℕ) → p.message c ≡ Some (PageRequestOf r) → p.page_request r ≡ InFlight)
    → (is_whole (p.host_group (p.group_of r)) ≡ true → r < p.page_requests → p.page_request r ≡ Filed)
    → ((x : ℕ) → is_whole (p.host_group x) ≡ true → p.group x ≢ Collecting) → is_whole ((act_alone p n o).host_group ((act_alone p n o).group_of r)) ≡ true → r
    < (act_alone p n o).page_requests → (act_alone p n o).page_request r ≡ Filed
whole_kept ms g n p o l hj r fl nf bo fi old wg h i = grind (arith, nat_tests, hj (p.group_of r))

kept_kept : (ms : Mappings) (g n : ℕ) (p : Endpoint) (o : LocalAct) → LegalLocalAct ms g p o → ((c : ℕ) → p.message c ≡ Some ResetDone → p.phase ≡ Cleared c)
    → ((c x : ℕ) → p.phase ≡ Cleared c → p.group x ≡ Closed) → (r : ℕ) → (r < p.page_requests → p.group_of r < p.groups)
    → (p.phase ≡ Open → r < p.page_requests → is_outstanding (p.group (p.group_of r)) ≡ true → p.page_request r ≢ Dropped) → (act_alone p n o).phase ≡ Open
    → r < (act_alone p n o).page_requests → is_outstanding ((act_alone p n o).group ((act_alone p n o).group_of r)) ≡ true
    → (act_alone p n o).page_request r ≢ Dropped
kept_kept ms g n p o l up fin r bo old h i j k = grind (arith, nat_tests)

abbrev pub NoneBehind : Endpoint → LocalAct → (r : ℕ) → Type 0
NoneBehind p (Reopen c) r = (p.page_request r ≢ InFlight) × (p.page_request r ≢ Arrived)
NoneBehind p _ r = Unit {0}

out_kept : (ms : Mappings) (g n : ℕ) (p : Endpoint) (o : LocalAct) → LegalLocalAct ms g p o
    → ((c x : ℕ) (code : Code) → p.message c ≡ Some (ResponseOf x code) → is_whole (p.host_group x) ≡ true) → (r : ℕ)
    → (is_whole (p.host_group (p.group_of r)) ≡ true → r < p.page_requests → p.page_request r ≡ Filed)
    → ((p.page_request r ≡ InFlight) ⊎ (p.page_request r ≡ Arrived) → r < p.page_requests) → (r < p.page_requests → p.group_of r < p.groups)
    → NoneBehind p o r → ((c : ℕ) → p.message c ≡ Some (PageRequestOf r) → p.page_request r ≡ InFlight)
    → (p.phase ≡ Open → (p.page_request r ≡ InFlight) ⊎ (p.page_request r ≡ Arrived) → is_outstanding (p.group (p.group_of r)) ≡ true)
    → (act_alone p n o).phase ≡ Open → ((act_alone p n o).page_request r ≡ InFlight) ⊎ ((act_alone p n o).page_request r ≡ Arrived)
    → is_outstanding ((act_alone p n o).group ((act_alone p n o).group_of r)) ≡ true
out_kept ms g n p o l rs r wh made bo gone fi old h i = grind (arith, nat_tests)

-- when a reset-done arrives, no page request is in flight or arrived
gone_then : (n : ℕ) (p : Endpoint) → Resets n p → Queued p → (c : ℕ) → ((d : ℕ) → d < c → p.message d ≡ None) → p.message c ≡ Some ResetDone → (r : ℕ)
    → (p.page_request r ≢ InFlight) × (p.page_request r ≢ Arrived)
gone_then n p re qu c none h r =
    let ph = re.up c h in
    let f : p.page_request r ≢ InFlight = λ i. let m = qu.message r i in let older =
    re.older c (p.page_request_message r) (PageRequestOf r) ph m in absurd (grind (arith, none (p.page_request_message r))) in
    (f, re.unarrived r (grind (arith)))

none_behind : (ms : Mappings) (g n : ℕ) (p : Endpoint) (o : LocalAct) → LegalLocalAct ms g p o → Resets n p → Queued p → (r : ℕ) → NoneBehind p o r
none_behind ms g n p (Reopen c) l re qu r = gone_then n p re qu c l.1 l.0 r
none_behind ms g n p _ l re qu r = tt

pub lasts : (ms : Mappings) (g n : ℕ) (p : Endpoint) (o : LocalAct) → LegalLocalAct ms g p o → Resets n p → Bounds g p → Queued p → HasJob p
    → ((c x : ℕ) (code : Code) → p.message c ≡ Some (ResponseOf x code) → is_whole (p.host_group x) ≡ true) → Lasts p → Lasts (act_alone p n o)
lasts ms g n p o l re bo qu hj rs la =
    record {
      last_group = λ r h i. last_group_kept ms g n p o l r (bo.group_of r) (la.last_group r) h i;
      last_once = λ r x h i j k e. last_once_kept ms g n p o l r x (bo.group_of r) (bo.group_of x) (la.last_group r) (la.last_group x)
          (la.last_once r x) h i j k e;
      last_flight = λ c d y x h i j e. last_flight_kept ms g n p o l c d y x (bo.group_of y) (bo.group_of x) (re.unsent c) (re.unsent d)
          (bo.requested c y) (bo.requested d x) (la.last_group y) (la.last_flight c d y x) h i j e;
      last_arrived = λ y x h i e. last_arrived_kept ms g n p o l y x (bo.group_of y) (bo.group_of x) (arrived_made g p bo y) (qu.made x)
          (la.last_group y) (qu.message x) (λ c. la.last_flight c (p.page_request_message x) y x) (λ c. bo.requested c y) (la.last_arrived y x) h i e;
      last_order = λ y x h i e j. last_order_kept ms g n p o l y x (λ k. (qu.arrived x k).0) (λ c k. (qu.in_flight c x k).0) (arrived_made g p bo y)
          (arrived_made g p bo x) (la.last_arrived y x) (la.last_order y x) h i e j;
      whole_group = λ x h. whole_group_kept ms g n p o l hj la.last_group (arrived_made g p bo) x (bo.host_group x) (la.whole_group x) h;
      whole = λ r h i. whole_kept ms g n p o l hj r (files_last ms g p o l qu la r) (bo.host_group p.groups (omega arith)) (bo.group_of r)
          (λ c k. (qu.in_flight c r k).0) (la.whole r) la.whole_group h i;
      kept = λ r h i j. kept_kept ms g n p o l re.up re.finished r (bo.group_of r) (la.kept r) h i j;
      out = λ r h i. out_kept ms g n p o l rs r (la.whole r) (either_made g p bo qu r) (bo.group_of r) (none_behind ms g n p o l re qu r)
          (λ c k. (qu.in_flight c r k).0) (la.out r) h i;
    }
