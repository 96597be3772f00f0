-- A moment is safe exactly where it is so without asks, and without faults.
use Rattle.std.proofs.Common.{◌≡◌, ◌∙◌, ℕ, Bool, true, false, Option, Some, None, List, [], ◌∷◌, map, refl, ap, sym}
use Rattle.std.specs.Prelude.{◌||◌, if◌then◌else◌, filter, not, slice_get}
use Rattle.std.specs.List.{list_all}
use Rattle.std.proofs.lemmas.Bool.{and_from, and_parts}
use Rattle.sva_open.specs.declared.frames.Tenure.{Tenure}
use Rattle.sva_open.specs.declared.frames.Target.{Target}
use Rattle.sva_open.specs.declared.messages.Message.{Message}
use Rattle.sva_open.specs.declared.messages.Message.TheVariants as message
use Rattle.sva_open.specs.declared.messages.Sent.{Sent}
use Rattle.sva_open.specs.declared.works.Request.{Request}
use Rattle.sva_open.specs.declared.settings.Settings.{Settings}
use Rattle.sva_open.specs.World.{Open, Part}
use Rattle.sva_open.specs.Checks.{is_good_work}
use Rattle.sva_open.specs.Checks.{is_its_own, is_right, is_right_sent, is_safe, is_safe_part}
use Rattle.sva_open_laws.specs.Occasions.{AreSafeApart, Chain, is_message_left, is_sent_left, isnt_use, part_without, without}
use Rattle.sva_open_laws.specs.Occasions.Chain.{Asks, Faults}
use Rattle.sva_open_laws.proofs.Filters.{left}
use Rattle.sva_open_laws.proofs.PageSafety.{rest_by, safe_of, tested}

-- ---- lists

head_by : {A : Type 0} (q q_one q_other p r : A → Bool) (x : A) (xs : List A) (a b : Bool) → p x ≡ a → r x ≡ b → a || b ≡ true
    → (p x ≡ true → q_one x ≡ q x) → (r x ≡ true → q_other x ≡ q x)
    → list_all q_one (filter p (x ∷ xs)) ≡ true → list_all q_other (filter r (x ∷ xs)) ≡ true → q x ≡ true
head_by q q_one q_other p r x xs true b is are some one other h k =
    sym (one is) ∙ (and_parts _ _ (sym (ap (list_all q_one) (left p x xs is)) ∙ h)).0
head_by q q_one q_other p r x xs false true is are some one other h k =
    sym (other are) ∙ (and_parts _ _ (sym (ap (list_all q_other) (left r x xs are)) ∙ k)).0
head_by q q_one q_other p r x xs false false is are some one other h k = absurd (cc)

-- what stands in the one list or in the other
all_by : {A : Type 0} (q q_one q_other p r : A → Bool) → ((x : A) → p x || r x ≡ true) → ((x : A) → p x ≡ true → q_one x ≡ q x)
    → ((x : A) → r x ≡ true → q_other x ≡ q x)
    → (xs : List A) → list_all q_one (filter p xs) ≡ true → list_all q_other (filter r xs) ≡ true → list_all q xs ≡ true
all_by q q_one q_other p r any one other [] h k = refl
all_by q q_one q_other p r any one other (x ∷ xs) h k =
    and_from _ _ (head_by q q_one q_other p r x xs (p x) (r x) refl refl (any x) (one x) (other x) h k)
    (all_by q q_one q_other p r any one other xs (rest_by q_one x (filter p xs) (p x) h) (rest_by q_other x (filter r xs) (r x) k))

left_by : {A : Type 0} (q : A → Bool) (x : A) (xs : List A) (b : Bool) → (b ≡ true → q x ≡ true) → list_all q xs ≡ true
    → list_all q (if b then (x ∷ xs) else xs) ≡ true
left_by q x xs true h rest = and_from _ _ (h refl) rest
left_by q x xs false h rest = rest

-- what is so of all is so of those that are left
left_of : {A : Type 0} (q r p : A → Bool) → ((x : A) → p x ≡ true → r x ≡ q x) → (xs : List A) → list_all q xs ≡ true
    → list_all r (filter p xs) ≡ true
left_of q r p same [] h = refl
left_of q r p same (x ∷ xs) h =
    let each = and_parts (q x) (list_all q xs) h in
    left_by r x (filter p xs) (p x) (λ is. same x is ∙ each.0) (left_of q r p same xs each.1)

-- ---- what is in flight

in_one : (its : Message) → is_message_left Asks its || is_message_left Faults its ≡ true
in_one (message.Completion tag page target) = refl
in_one (message.Request tag pasid page) = refl
in_one (message.PageRequest request) = refl
in_one (message.Response index fails filed) = refl
in_one (message.Start pasid) = refl
in_one (message.Stop pasid) = refl
in_one message.Reset = refl
in_one (message.Invalidate itag scope) = refl
in_one (message.Invalidated itag) = refl
in_one (message.Marker pasid) = refl
in_one (message.Status pasid) = refl
in_one message.ResetDone = refl
in_one (message.Barrier barrier) = refl
in_one (message.Passed barrier) = refl

its_own : (frames : List Tenure) (part : Part) (one : Sent) (page : ℕ) (target : Option Target) (o : Option (Option Request))
    → is_its_own frames (part_without Faults part) one page target o ≡ is_its_own frames part one page target o
its_own frames part one page target None = refl
its_own frames part one page target (Some None) = refl
its_own frames part one page target (Some (Some request)) = refl

-- a message that is left is right without the chain where it is right
same_right : (chain : Chain) (settings : Settings) (frames : List Tenure) (part : Part) (one : Sent) (its : Message) → is_message_left chain its ≡ true
    → is_right settings frames (part_without chain part) one its ≡ is_right settings frames part one its
same_right Asks settings frames part one (message.Completion tag page target) h = absurd (cc)
same_right Asks settings frames part one (message.Request tag pasid page) h = refl
same_right Asks settings frames part one (message.PageRequest request) h = refl
same_right Asks settings frames part one (message.Response index fails filed) h = refl
same_right Asks settings frames part one (message.Start pasid) h = refl
same_right Asks settings frames part one (message.Stop pasid) h = refl
same_right Asks settings frames part one message.Reset h = refl
same_right Asks settings frames part one (message.Invalidate itag scope) h = refl
same_right Asks settings frames part one (message.Invalidated itag) h = refl
same_right Asks settings frames part one (message.Marker pasid) h = refl
same_right Asks settings frames part one (message.Status pasid) h = refl
same_right Asks settings frames part one message.ResetDone h = refl
same_right Asks settings frames part one (message.Barrier barrier) h = refl
same_right Asks settings frames part one (message.Passed barrier) h = refl
same_right Faults settings frames part one (message.Completion tag page target) h = its_own frames part one page target (slice_get part.requests tag)
same_right Faults settings frames part one (message.Request tag pasid page) h = refl
same_right Faults settings frames part one (message.PageRequest request) h = absurd (cc)
same_right Faults settings frames part one (message.Response index fails filed) h = absurd (cc)
same_right Faults settings frames part one (message.Start pasid) h = refl
same_right Faults settings frames part one (message.Stop pasid) h = refl
same_right Faults settings frames part one message.Reset h = refl
same_right Faults settings frames part one (message.Invalidate itag scope) h = refl
same_right Faults settings frames part one (message.Invalidated itag) h = refl
same_right Faults settings frames part one (message.Marker pasid) h = refl
same_right Faults settings frames part one (message.Status pasid) h = refl
same_right Faults settings frames part one message.ResetDone h = refl
same_right Faults settings frames part one (message.Barrier barrier) h = refl
same_right Faults settings frames part one (message.Passed barrier) h = refl

-- ---- a part

-- what asks make is there without faults, and what faults make without asks
safe_by : (settings : Settings) (frames : List Tenure) (freed domains : List ℕ) (part : Part)
    → is_safe_part settings frames freed domains (part_without Asks part) ≡ true
    → is_safe_part settings frames freed domains (part_without Faults part) ≡ true → is_safe_part settings frames freed domains part ≡ true
safe_by settings frames freed domains part h k =
    let a = tested settings frames freed domains (part_without Asks part) h in
    let f = tested settings frames freed domains (part_without Faults part) k in
    safe_of settings frames freed domains part (record {
      held = f.held;
      works = f.works;
      requests = f.requests;
      arrived = a.arrived;
      received = a.received;
      filed = a.filed;
      joined = a.joined;
      kept = f.kept;
      entries = f.entries;
      flight = all_by (is_right_sent settings frames part) (is_right_sent settings frames (part_without Asks part))
          (is_right_sent settings frames (part_without Faults part)) (is_sent_left Asks) (is_sent_left Faults) (λ one. in_one one.message)
          (λ one. same_right Asks settings frames part one one.message) (λ one. same_right Faults settings frames part one one.message)
          part.flight a.flight f.flight;
      rows = f.rows;
    })

none_filed : (b : Bool) → not b || true ≡ true
none_filed true = refl
none_filed false = refl

safe_in : (settings : Settings) (frames : List Tenure) (freed domains : List ℕ) (chain : Chain) (part : Part)
    → is_safe_part settings frames freed domains part ≡ true → is_safe_part settings frames freed domains (part_without chain part) ≡ true
safe_in settings frames freed domains Asks part h =
    let t = tested settings frames freed domains part h in
    safe_of settings frames freed domains (part_without Asks part) (record {
      held = refl;
      works = left_of (is_good_work frames part) (is_good_work frames (part_without Asks part)) isnt_use (λ work is. refl) part.works t.works;
      requests = refl;
      arrived = t.arrived;
      received = t.received;
      filed = t.filed;
      joined = t.joined;
      kept = refl;
      entries = refl;
      flight = left_of (is_right_sent settings frames part) (is_right_sent settings frames (part_without Asks part)) (is_sent_left Asks)
          (λ one. same_right Asks settings frames part one one.message) part.flight t.flight;
      rows = t.rows;
    })
safe_in settings frames freed domains Faults part h =
    let t = tested settings frames freed domains part h in
    safe_of settings frames freed domains (part_without Faults part) (record {
      held = t.held;
      works = t.works;
      requests = t.requests;
      arrived = refl;
      received = refl;
      filed = none_filed settings.has_workers;
      joined = refl;
      kept = t.kept;
      entries = t.entries;
      flight = left_of (is_right_sent settings frames part) (is_right_sent settings frames (part_without Faults part)) (is_sent_left Faults)
          (λ one. same_right Faults settings frames part one one.message) part.flight t.flight;
      rows = t.rows;
    })

-- ---- the whole

parts_by : (settings : Settings) (frames : List Tenure) (freed domains : List ℕ) (parts : List Part)
    → list_all (is_safe_part settings frames freed domains) (map (part_without Asks) parts) ≡ true
    → list_all (is_safe_part settings frames freed domains) (map (part_without Faults) parts) ≡ true
    → list_all (is_safe_part settings frames freed domains) parts ≡ true
parts_by settings frames freed domains [] h k = refl
parts_by settings frames freed domains (part ∷ parts) h k =
    let one = and_parts (is_safe_part settings frames freed domains (part_without Asks part)) _ h in
    let other = and_parts (is_safe_part settings frames freed domains (part_without Faults part)) _ k in
    and_from _ _ (safe_by settings frames freed domains part one.0 other.0) (parts_by settings frames freed domains parts one.1 other.1)

parts_in : (settings : Settings) (frames : List Tenure) (freed domains : List ℕ) (chain : Chain) (parts : List Part)
    → list_all (is_safe_part settings frames freed domains) parts ≡ true
    → list_all (is_safe_part settings frames freed domains) (map (part_without chain) parts) ≡ true
parts_in settings frames freed domains chain [] h = refl
parts_in settings frames freed domains chain (part ∷ parts) h =
    let each = and_parts (is_safe_part settings frames freed domains part) _ h in
    and_from _ _ (safe_in settings frames freed domains chain part each.0) (parts_in settings frames freed domains chain parts each.1)

pub safe_whole : (now : Open) → ((chain : Chain) → is_safe (without chain now) ≡ true) → is_safe now ≡ true
safe_whole now h = parts_by now.settings now.frames now.freed now.domains now.parts (h Asks) (h Faults)

pub safe_apart : AreSafeApart
safe_apart now = (λ h chain. parts_in now.settings now.frames now.freed now.domains chain now.parts h, safe_whole now)
