-- Nothing is wrong exactly where a moment is safe.
use Rattle.std.proofs.Common.{◌≡◌, ℕ, Bool, true, false, not, Option, None, List, [], ◌∷◌, refl, ap, sym, ◌∙◌, ◌+◌}
use Rattle.std.specs.Prelude.{◌↔◌, ◌&&◌, ◌||◌, position, slice_get}
use Rattle.std.specs.List.{list_all}
use Rattle.sva_open.specs.World.{Open, Part}
use Rattle.sva_open.specs.Checks.{are_good_filed, is_good, is_good_arrived, is_good_filed, is_good_received, is_safe_for_workers}
use Rattle.sva_open.specs.Checks.{is_good_entry, is_good_kept, is_good_request, is_good_work, is_owned, is_right_sent}
use Rattle.sva_open.specs.Checks.{is_safe, is_safe_device, is_safe_part, is_safe_unit, joins_own_group}
use Rattle.sva_open.specs.declared.descriptors.Filed.{Filed}
use Rattle.sva_open.specs.declared.messages.Sent.{Sent}
use Rattle.sva_open.specs.declared.settings.Settings.{Settings}
use Rattle.sva_open_safe.specs.Wrongs as wrongs
use Rattle.sva_open_safe.specs.declared.wrongs.Sort.{Sort}
use Rattle.sva_open_safe.specs.declared.wrongs.Sort.TheVariants as sort
use Rattle.sva_open_safe.specs.declared.wrongs.Thing.TheVariants as thing
use Rattle.sva_open_safe.specs.declared.wrongs.Wrong.{Wrong}
use Rattle.sva_open_safe.specs.declared.wrongs.Wrong.TheVariants as wrong
use Rattle.sva_open_safe.proofs.Quiet.{both, and, quiet, none_of, neither, none, each_and, each_same, each_of_two}
use Rattle.sva_open_safe.proofs.Quiet.{all_quiet, in_quiet, in_none, no, placed, good_held, good_work, good_request}
use Rattle.sva_open_safe.proofs.Quiet.{left_by, met_by, right, owned, walked, good_arrived, good_received, good_filed, good_kept, good_entry, joined}

-- ---- an endpoint

-- the tests of lists are those of what is wrong
abbrev Held : Open → (e : ℕ) → Part → Type 0
Held now e part =
    list_all (is_good now.frames part) part.held
    ≡ all_quiet (wrongs.held_wrong sort.Freed now e) part.held
    && (all_quiet (wrongs.held_wrong sort.Frozen now e) part.held && all_quiet (wrongs.held_left part e) part.held)

three : {X : Type 0} (good p q r : X → Bool) → ((x : X) → good x ≡ p x && (q x && r x)) → (xs : List X)
    → list_all good xs ≡ list_all p xs && (list_all q xs && list_all r xs)
three good p q r same xs =
    each_of_two good p (λ x. q x && r x) same xs ∙ ap (λ b. list_all p xs && b) (each_and q r xs)

four : {X : Type 0} (good p q r s : X → Bool) → ((x : X) → good x ≡ p x && (q x && (r x && s x))) → (xs : List X)
    → list_all good xs ≡ list_all p xs && (list_all q xs && (list_all r xs && list_all s xs))
four good p q r s same xs =
    each_of_two good p (λ x. q x && (r x && s x)) same xs
    ∙ ap (λ b. list_all p xs && b) (three (λ x. q x && (r x && s x)) q r s (λ x. refl) xs)

held : (now : Open) (e : ℕ) (part : Part) → Held now e part
held now e part = three (is_good now.frames part) _ _ _ (good_held now e part) part.held

works : (now : Open) (e : ℕ) (part : Part)
    → list_all (is_good_work now.frames part) part.works
    ≡ all_quiet (wrongs.work_wrong sort.Freed now e) part.works
    && (all_quiet (wrongs.work_wrong sort.Frozen now e) part.works && all_quiet (wrongs.work_left part e) part.works)
works now e part = three (is_good_work now.frames part) _ _ _ (good_work now e part) part.works

requests : (e : ℕ) (part : Part) → list_all (is_good_request part) part.requests ≡ all_quiet (wrongs.request_left part e) part.requests
requests e part = each_same (is_good_request part) _ (good_request e part) part.requests

arrived : (e : ℕ) (part : Part) → list_all (is_good_arrived part) part.arrived ≡ all_quiet (wrongs.arrived_left part e) part.arrived
arrived e part = each_same (is_good_arrived part) _ (good_arrived e part) part.arrived

waiting : (e : ℕ) (part : Part) → list_all (is_good_received part) part.received ≡ all_quiet (wrongs.received_left part e) part.received
waiting e part = each_same (is_good_received part) _ (good_received e part) part.received

all_or : (b : Bool) (p : Filed → Bool) (xs : List Filed) → b || list_all p xs ≡ list_all (λ x. b || p x) xs
all_or false p xs = refl
all_or true p [] = refl
all_or true p (x ∷ xs) = all_or true p xs

-- what workers have to serve
filed : (settings : Settings) (domains : List ℕ) (e : ℕ) (part : Part)
    → are_good_filed settings domains part
    ≡ all_quiet (wrongs.filed_left settings part e) part.filed && all_quiet (wrongs.filed_served settings domains e) part.filed
filed settings domains e part =
    all_or (not settings.has_workers) (is_good_filed domains part) part.filed
    ∙ each_of_two (λ one. not settings.has_workers || is_good_filed domains part one) (λ one. quiet (wrongs.filed_left settings part e one))
    (λ one. quiet (wrongs.filed_served settings domains e one)) (good_filed settings domains e part) part.filed

kept : (e : ℕ) (part : Part) → list_all (is_good_kept part) part.kept ≡ all_quiet (wrongs.kept_left part e) part.kept
kept e part = each_same (is_good_kept part) _ (good_kept e part) part.kept

entries : (freed : List ℕ) (e : ℕ) (part : Part)
    → list_all (is_good_entry freed part) part.kept_entries
    ≡ all_quiet (wrongs.kept_entry_left part e) part.kept_entries && all_quiet (wrongs.kept_walked freed e) part.kept_entries
entries freed e part = each_of_two (is_good_entry freed part) _ _ (good_entry freed e part) part.kept_entries

rows : (freed : List ℕ) (part : Part)
    → list_all (is_owned freed) part.rows
    ≡ no wrongs.is_answer_left part.rows && (no wrongs.is_entry_left part.rows
    && (no wrongs.is_going part.rows && no (wrongs.is_walked freed) part.rows))
rows freed part = four (is_owned freed) _ _ _ _ (owned freed) part.rows

abbrev all_left : (e : ℕ) → Part → Bool
all_left e part =
    all_quiet (wrongs.one_left part e thing.Start) part.flight && (all_quiet (wrongs.one_left part e thing.Stop) part.flight
    && (all_quiet (wrongs.one_left part e thing.PageRequest) part.flight && (all_quiet (wrongs.one_left part e thing.Marker) part.flight
    && all_quiet (wrongs.one_left part e thing.Status) part.flight)))

lefts : (e : ℕ) (part : Part) → list_all (λ (one : Sent). left_by e part one.owner one.message) part.flight ≡ all_left e part
lefts e part =
    each_of_two _ (λ one. quiet (wrongs.one_left part e thing.Start one)) _ (λ one. refl) part.flight
    ∙ ap (λ b. all_quiet (wrongs.one_left part e thing.Start) part.flight && b)
    (four _ (λ one. quiet (wrongs.one_left part e thing.Stop one)) (λ one. quiet (wrongs.one_left part e thing.PageRequest one))
    (λ one. quiet (wrongs.one_left part e thing.Marker one)) (λ one. quiet (wrongs.one_left part e thing.Status one)) (λ one. refl) part.flight)

mets : (settings : Settings) (e : ℕ) (part : Part)
    → list_all (λ (one : Sent). met_by settings e part one one.message) part.flight
    ≡ all_quiet (wrongs.one_met settings part e) part.flight && all_quiet (wrongs.answer_met part e) part.flight
mets settings e part = each_and (λ one. quiet (wrongs.one_met settings part e one)) (λ one. quiet (wrongs.answer_met part e one)) part.flight

flight : (now : Open) (e : ℕ) (part : Part)
    → list_all (is_right_sent now.settings now.frames part) part.flight
    ≡ all_quiet (wrongs.sent_wrong sort.Freed now e part) part.flight && (all_quiet (wrongs.sent_wrong sort.Frozen now e part) part.flight
    && (all_left e part && (all_quiet (wrongs.one_met now.settings part e) part.flight && all_quiet (wrongs.answer_met part e) part.flight)))
flight now e part =
    four (is_right_sent now.settings now.frames part) (λ one. quiet (wrongs.sent_wrong sort.Freed now e part one))
    (λ one. quiet (wrongs.sent_wrong sort.Frozen now e part one)) (λ (one : Sent). left_by e part one.owner one.message)
    (λ (one : Sent). met_by now.settings e part one one.message) (λ one. right now e part one one.message) part.flight
    ∙ ap (λ b. all_quiet (wrongs.sent_wrong sort.Freed now e part) part.flight && (all_quiet (wrongs.sent_wrong sort.Frozen now e part) part.flight && b))
    (ap (λ b. b && list_all (λ (one : Sent). met_by now.settings e part one one.message) part.flight) (lefts e part)
    ∙ ap (λ b. all_left e part && b) (mets now.settings e part))

abbrev Frames : Sort → Open → (e : ℕ) → Part → Type 0
Frames of now e part =
    (all_quiet (wrongs.held_wrong of now e) part.held ≡ true) × (all_quiet (wrongs.work_wrong of now e) part.works ≡ true)
    × (all_quiet (wrongs.sent_wrong of now e part) part.flight ≡ true)

frames_quiet : (of : Sort) (now : Open) (e : ℕ) (part : Part) → wrongs.frames_wrong of now e part ≡ None → Frames of now e part
frames_quiet of now e part h =
    let a = neither (wrongs.first_in (wrongs.held_wrong of now e) part.held) _ h in
    let b = neither (wrongs.first_in (wrongs.work_wrong of now e) part.works) (wrongs.first_in (wrongs.sent_wrong of now e part) part.flight) a.1 in (
      in_quiet (wrongs.held_wrong of now e) part.held a.0,
      in_quiet (wrongs.work_wrong of now e) part.works b.0,
      in_quiet (wrongs.sent_wrong of now e part) part.flight b.1,
    )

frames_none : (of : Sort) (now : Open) (e : ℕ) (part : Part) → Frames of now e part → wrongs.frames_wrong of now e part ≡ None
frames_none of now e part h =
    none (wrongs.first_in (wrongs.held_wrong of now e) part.held) _ (in_none (wrongs.held_wrong of now e) part.held h.0)
    (none (wrongs.first_in (wrongs.work_wrong of now e) part.works) (wrongs.first_in (wrongs.sent_wrong of now e part) part.flight)
    (in_none (wrongs.work_wrong of now e) part.works h.1) (in_none (wrongs.sent_wrong of now e part) part.flight h.2))

abbrev Device : (e : ℕ) → Part → Type 0
Device e part =
    (all_quiet (wrongs.held_left part e) part.held ≡ true) × (all_quiet (wrongs.work_left part e) part.works ≡ true)
    × (all_quiet (wrongs.request_left part e) part.requests ≡ true)

abbrev Flight : (e : ℕ) → Part → Type 0
Flight e part =
    (all_quiet (wrongs.arrived_left part e) part.arrived ≡ true) × (all_left e part ≡ true)
    × (all_quiet (wrongs.received_left part e) part.received ≡ true)

abbrev Host : Settings → (e : ℕ) → Part → Type 0
Host settings e part =
    (no wrongs.is_answer_left part.rows ≡ true) × (no wrongs.is_entry_left part.rows ≡ true)
    × (all_quiet (wrongs.kept_entry_left part e) part.kept_entries ≡ true) × (all_quiet (wrongs.kept_left part e) part.kept ≡ true)
    × (all_quiet (wrongs.filed_left settings part e) part.filed ≡ true)

device_quiet : (e : ℕ) (part : Part) → wrongs.device_left e part ≡ None → Device e part
device_quiet e part h =
    let a = neither (wrongs.first_in (wrongs.held_left part e) part.held) _ h in
    let b = neither (wrongs.first_in (wrongs.work_left part e) part.works) (wrongs.first_in (wrongs.request_left part e) part.requests) a.1 in (
      in_quiet (wrongs.held_left part e) part.held a.0,
      in_quiet (wrongs.work_left part e) part.works b.0,
      in_quiet (wrongs.request_left part e) part.requests b.1,
    )

device_none : (e : ℕ) (part : Part) → Device e part → wrongs.device_left e part ≡ None
device_none e part h =
    none (wrongs.first_in (wrongs.held_left part e) part.held) _ (in_none (wrongs.held_left part e) part.held h.0)
    (none (wrongs.first_in (wrongs.work_left part e) part.works) (wrongs.first_in (wrongs.request_left part e) part.requests)
    (in_none (wrongs.work_left part e) part.works h.1) (in_none (wrongs.request_left part e) part.requests h.2))

flight_quiet : (e : ℕ) (part : Part) → wrongs.sent_left e part ≡ None → Flight e part
flight_quiet e part h =
    let a = neither (wrongs.first_in (wrongs.one_left part e thing.Start) part.flight) _ h in
    let b = neither (wrongs.first_in (wrongs.one_left part e thing.Stop) part.flight) _ a.1 in
    let c = neither (wrongs.first_in (wrongs.one_left part e thing.PageRequest) part.flight) _ b.1 in
    let w = neither (wrongs.first_in (wrongs.received_left part e) part.received) _ c.1 in
    let d = neither (wrongs.first_in (wrongs.arrived_left part e) part.arrived) _ w.1 in
    let f = neither (wrongs.first_in (wrongs.one_left part e thing.Marker) part.flight)
    (wrongs.first_in (wrongs.one_left part e thing.Status) part.flight) d.1 in (
      in_quiet (wrongs.arrived_left part e) part.arrived d.0,
      and _ _ (in_quiet (wrongs.one_left part e thing.Start) part.flight a.0) (and _ _ (in_quiet (wrongs.one_left part e thing.Stop) part.flight b.0)
          (and _ _ (in_quiet (wrongs.one_left part e thing.PageRequest) part.flight c.0)
          (and _ _ (in_quiet (wrongs.one_left part e thing.Marker) part.flight f.0)
          (in_quiet (wrongs.one_left part e thing.Status) part.flight f.1)))),
      in_quiet (wrongs.received_left part e) part.received w.0,
    )

flight_none : (e : ℕ) (part : Part) → Flight e part → wrongs.sent_left e part ≡ None
flight_none e part h =
    let a = both (all_quiet (wrongs.one_left part e thing.Start) part.flight) _ h.1 in
    let b = both (all_quiet (wrongs.one_left part e thing.Stop) part.flight) _ a.1 in
    let c = both (all_quiet (wrongs.one_left part e thing.PageRequest) part.flight) _ b.1 in
    let d = both (all_quiet (wrongs.one_left part e thing.Marker) part.flight)
    (all_quiet (wrongs.one_left part e thing.Status) part.flight) c.1 in
    none (wrongs.first_in (wrongs.one_left part e thing.Start) part.flight) _ (in_none (wrongs.one_left part e thing.Start) part.flight a.0)
    (none (wrongs.first_in (wrongs.one_left part e thing.Stop) part.flight) _ (in_none (wrongs.one_left part e thing.Stop) part.flight b.0)
    (none (wrongs.first_in (wrongs.one_left part e thing.PageRequest) part.flight) _
    (in_none (wrongs.one_left part e thing.PageRequest) part.flight c.0)
    (none (wrongs.first_in (wrongs.received_left part e) part.received) _ (in_none (wrongs.received_left part e) part.received h.2)
    (none (wrongs.first_in (wrongs.arrived_left part e) part.arrived) _ (in_none (wrongs.arrived_left part e) part.arrived h.0)
    (none (wrongs.first_in (wrongs.one_left part e thing.Marker) part.flight) (wrongs.first_in (wrongs.one_left part e thing.Status) part.flight)
    (in_none (wrongs.one_left part e thing.Marker) part.flight d.0) (in_none (wrongs.one_left part e thing.Status) part.flight d.1))))))

host_quiet : (settings : Settings) (e : ℕ) (part : Part) → wrongs.host_left settings e part ≡ None → Host settings e part
host_quiet settings e part h =
    let a = neither (wrongs.answer_left e part) _ h in
    let b = neither (wrongs.entry_left e part) _ a.1 in
    let c = neither (wrongs.first_in (wrongs.kept_entry_left part e) part.kept_entries) _ b.1 in
    let d = neither (wrongs.first_in (wrongs.kept_left part e) part.kept) (wrongs.first_in (wrongs.filed_left settings part e) part.filed) c.1 in (
      sym (placed wrongs.is_answer_left (λ pasid. wrong.Left e thing.Answer pasid) part.rows) ∙ ap quiet a.0,
      sym (placed wrongs.is_entry_left (λ pasid. wrong.Left e thing.Entry pasid) part.rows) ∙ ap quiet b.0,
      in_quiet (wrongs.kept_entry_left part e) part.kept_entries c.0,
      in_quiet (wrongs.kept_left part e) part.kept d.0,
      in_quiet (wrongs.filed_left settings part e) part.filed d.1,
    )

host_none : (settings : Settings) (e : ℕ) (part : Part) → Host settings e part → wrongs.host_left settings e part ≡ None
host_none settings e part h =
    none (wrongs.answer_left e part) _
    (none_of (wrongs.answer_left e part) (placed wrongs.is_answer_left (λ pasid. wrong.Left e thing.Answer pasid) part.rows ∙ h.0))
    (none (wrongs.entry_left e part) _
    (none_of (wrongs.entry_left e part) (placed wrongs.is_entry_left (λ pasid. wrong.Left e thing.Entry pasid) part.rows ∙ h.1))
    (none (wrongs.first_in (wrongs.kept_entry_left part e) part.kept_entries) _
    (in_none (wrongs.kept_entry_left part e) part.kept_entries h.2)
    (none (wrongs.first_in (wrongs.kept_left part e) part.kept) (wrongs.first_in (wrongs.filed_left settings part e) part.filed)
    (in_none (wrongs.kept_left part e) part.kept h.3) (in_none (wrongs.filed_left settings part e) part.filed h.4))))

abbrev Left : Settings → (e : ℕ) → Part → Type 0
Left settings e part = Device e part × Flight e part × Host settings e part

left_quiet : (settings : Settings) (e : ℕ) (part : Part) → wrongs.left settings e part ≡ None → Left settings e part
left_quiet settings e part h =
    let a = neither (wrongs.device_left e part) _ h in
    let b = neither (wrongs.sent_left e part) (wrongs.host_left settings e part) a.1 in
    (device_quiet e part a.0, flight_quiet e part b.0, host_quiet settings e part b.1)

left_none : (settings : Settings) (e : ℕ) (part : Part) → Left settings e part → wrongs.left settings e part ≡ None
left_none settings e part h =
    none (wrongs.device_left e part) _ (device_none e part h.0)
    (none (wrongs.sent_left e part) (wrongs.host_left settings e part) (flight_none e part h.1) (host_none settings e part h.2))

abbrev Walks : Settings → (freed domains : List ℕ) → (e : ℕ) → Part → Type 0
Walks settings freed domains e part =
    (no (wrongs.is_walked freed) part.rows ≡ true) × (all_quiet (wrongs.kept_walked freed e) part.kept_entries ≡ true)
    × (all_quiet (wrongs.filed_served settings domains e) part.filed ≡ true)

walks_quiet : (settings : Settings) (freed domains : List ℕ) (e : ℕ) (part : Part) → wrongs.walks settings freed domains e part ≡ None
    → Walks settings freed domains e part
walks_quiet settings freed domains e part h =
    let a = neither (wrongs.rows_walked freed e part (position (wrongs.is_walked freed) part.rows)) _ h in
    let b = neither (wrongs.first_in (wrongs.kept_walked freed e) part.kept_entries)
    (wrongs.first_in (wrongs.filed_served settings domains e) part.filed) a.1 in (
      sym (walked freed e part) ∙ ap quiet a.0,
      in_quiet (wrongs.kept_walked freed e) part.kept_entries b.0,
      in_quiet (wrongs.filed_served settings domains e) part.filed b.1,
    )

walks_none : (settings : Settings) (freed domains : List ℕ) (e : ℕ) (part : Part) → Walks settings freed domains e part
    → wrongs.walks settings freed domains e part ≡ None
walks_none settings freed domains e part h =
    none (wrongs.rows_walked freed e part (position (wrongs.is_walked freed) part.rows)) _
    (none_of (wrongs.rows_walked freed e part (position (wrongs.is_walked freed) part.rows)) (walked freed e part ∙ h.0))
    (none (wrongs.first_in (wrongs.kept_walked freed e) part.kept_entries) (wrongs.first_in (wrongs.filed_served settings domains e) part.filed)
    (in_none (wrongs.kept_walked freed e) part.kept_entries h.1) (in_none (wrongs.filed_served settings domains e) part.filed h.2))

goes_quiet : (e : ℕ) (part : Part) → wrongs.goes e part ≡ None → no wrongs.is_going part.rows ≡ true
goes_quiet e part h = sym (placed wrongs.is_going (λ pasid. wrong.Goes e pasid) part.rows) ∙ ap quiet h

goes_none : (e : ℕ) (part : Part) → no wrongs.is_going part.rows ≡ true → wrongs.goes e part ≡ None
goes_none e part h = none_of (wrongs.goes e part) (placed wrongs.is_going (λ pasid. wrong.Goes e pasid) part.rows ∙ h)

-- all of it
record Quiet (now : Open) (e : ℕ) (part : Part) : Type 0 where
  freed : Frames sort.Freed now e part
  frozen : Frames sort.Frozen now e part
  left : Left now.settings e part
  goes : no wrongs.is_going part.rows ≡ true
  walks : Walks now.settings now.freed now.domains e part
  responses : all_quiet (wrongs.one_met now.settings part e) part.flight ≡ true
  joins : quiet (wrongs.joins part e (slice_get part.arrived 0)) ≡ true
  answers : all_quiet (wrongs.answer_met part e) part.flight ≡ true

quiet_at : (now : Open) (e : ℕ) (part : Part) → ((of : Sort) → wrongs.wrong_at now of e part ≡ None) → Quiet now e part
quiet_at now e part h = record {
  freed = frames_quiet sort.Freed now e part (h sort.Freed);
  frozen = frames_quiet sort.Frozen now e part (h sort.Frozen);
  left = left_quiet now.settings e part (h sort.Left);
  goes = goes_quiet e part (h sort.Goes);
  walks = walks_quiet now.settings now.freed now.domains e part (h sort.Walks);
  responses = in_quiet (wrongs.one_met now.settings part e) part.flight (h sort.Responses);
  joins = ap quiet (h sort.Joins);
  answers = in_quiet (wrongs.answer_met part e) part.flight (h sort.Requests);
}

none_at : (now : Open) (e : ℕ) (part : Part) → Quiet now e part → (of : Sort) → wrongs.wrong_at now of e part ≡ None
none_at now e part q sort.Freed = frames_none sort.Freed now e part q.freed
none_at now e part q sort.Frozen = frames_none sort.Frozen now e part q.frozen
none_at now e part q sort.Left = left_none now.settings e part q.left
none_at now e part q sort.Goes = goes_none e part q.goes
none_at now e part q sort.Walks = walks_none now.settings now.freed now.domains e part q.walks
none_at now e part q sort.Responses = in_none (wrongs.one_met now.settings part e) part.flight q.responses
none_at now e part q sort.Joins = none_of (wrongs.joins part e (slice_get part.arrived 0)) q.joins
none_at now e part q sort.Requests = in_none (wrongs.answer_met part e) part.flight q.answers

safe_device : (now : Open) (e : ℕ) (part : Part) → Quiet now e part → is_safe_device now.frames part ≡ true
safe_device now e part q =
    and _ _ (held now e part ∙ and _ _ q.freed.0 (and _ _ q.frozen.0 q.left.0.0))
    (and _ _ (works now e part ∙ and _ _ q.freed.1 (and _ _ q.frozen.1 q.left.0.1)) (requests e part ∙ q.left.0.2))

safe_unit : (now : Open) (e : ℕ) (part : Part) → Quiet now e part → is_safe_unit now.freed part ≡ true
safe_unit now e part q =
    and _ _ (arrived e part ∙ q.left.1.0)
    (and _ _ (joined e part (slice_get part.arrived 0) ∙ q.joins)
    (and _ _ (kept e part ∙ q.left.2.3) (entries now.freed e part ∙ and _ _ q.left.2.2 q.walks.1)))

safe_for_workers : (now : Open) (e : ℕ) (part : Part) → Quiet now e part → is_safe_for_workers now.settings now.domains part ≡ true
safe_for_workers now e part q =
    and _ _ (waiting e part ∙ q.left.1.2) (filed now.settings now.domains e part ∙ and _ _ q.left.2.4 q.walks.2)

safe_part : (now : Open) (e : ℕ) (part : Part) → Quiet now e part → is_safe_part now.settings now.frames now.freed now.domains part ≡ true
safe_part now e part q =
    and _ _ (safe_device now e part q) (and _ _ (safe_unit now e part q)
    (and _ _ (safe_for_workers now e part q) (and _ _
    (flight now e part ∙ and _ _ q.freed.2 (and _ _ q.frozen.2 (and _ _ q.left.1.1 (and _ _ q.responses q.answers))))
    (rows now.freed part ∙ and _ _ q.left.2.0 (and _ _ q.left.2.1 (and _ _ q.goes q.walks.0))))))

quiet_part : (now : Open) (e : ℕ) (part : Part) → is_safe_part now.settings now.frames now.freed now.domains part ≡ true → Quiet now e part
quiet_part now e part h =
    let top = both (is_safe_device now.frames part) _ h in
    let next = both (is_safe_unit now.freed part) _ top.1 in
    let then = both (is_safe_for_workers now.settings now.domains part) _ next.1 in
    let way = both (list_all (is_good_received part) part.received) (are_good_filed now.settings now.domains part) then.0 in
    let last = both (list_all (is_right_sent now.settings now.frames part) part.flight) (list_all (is_owned now.freed) part.rows) then.1 in
    let device = both (list_all (is_good now.frames part) part.held) _ top.0 in
    let busy = both (list_all (is_good_work now.frames part) part.works) (list_all (is_good_request part) part.requests) device.1 in
    let unit = both (list_all (is_good_arrived part) part.arrived) _ next.0 in
    let queue = both (joins_own_group part.endpoint part.filed (slice_get part.arrived 0)) _ unit.1 in
    let keeps = both (list_all (is_good_kept part) part.kept) (list_all (is_good_entry now.freed part) part.kept_entries) queue.1 in
    let a = both _ _ (sym (held now e part) ∙ device.0) in
    let a2 = both _ _ a.1 in
    let b = both _ _ (sym (works now e part) ∙ busy.0) in
    let b2 = both _ _ b.1 in
    let c = both _ _ (sym (flight now e part) ∙ last.0) in
    let c2 = both _ _ c.1 in
    let c3 = both (all_left e part) _ c2.1 in
    let c4 = both _ _ c3.1 in
    let d = both _ _ (sym (rows now.freed part) ∙ last.1) in
    let d2 = both _ _ d.1 in
    let d3 = both _ _ d2.1 in
    let f = both _ _ (sym (entries now.freed e part) ∙ keeps.1) in
    let g = both _ _ (sym (filed now.settings now.domains e part) ∙ way.1) in
    record {
      freed = (a.0, b.0, c.0);
      frozen = (a2.0, b2.0, c2.0);
      left = (
        (a2.1, b2.1, sym (requests e part) ∙ busy.1),
        (sym (arrived e part) ∙ unit.0, c3.0, sym (waiting e part) ∙ way.0),
        (d.0, d2.0, f.0, sym (kept e part) ∙ keeps.0, g.0),
      );
      goes = d3.0;
      walks = (d3.1, f.1, g.1);
      responses = c4.0;
      joins = sym (joined e part (slice_get part.arrived 0)) ∙ queue.0;
      answers = c4.1;
    }

-- ---- the whole

safe_from : (now : Open) (e : ℕ) (parts : List Part) → ((of : Sort) → wrongs.first_from now of e parts ≡ None)
    → list_all (is_safe_part now.settings now.frames now.freed now.domains) parts ≡ true
unfolding wrongs.first_from
safe_from now e [] h = refl
safe_from now e (part ∷ parts) h =
    and _ _ (safe_part now e part (quiet_at now e part (λ of. (neither (wrongs.wrong_at now of e part) _ (h of)).0)))
    (safe_from now (e + 1) parts (λ of. (neither (wrongs.wrong_at now of e part) _ (h of)).1))

none_from : (now : Open) (of : Sort) (e : ℕ) (parts : List Part) → list_all (is_safe_part now.settings now.frames now.freed now.domains) parts ≡ true
    → wrongs.first_from now of e parts ≡ None
unfolding wrongs.first_from
none_from now of e [] h = refl
none_from now of e (part ∷ parts) h =
    let each = both (is_safe_part now.settings now.frames now.freed now.domains part)
    (list_all (is_safe_part now.settings now.frames now.freed now.domains) parts) h in
    none (wrongs.wrong_at now of e part) _ (none_at now e part (quiet_part now e part each.0) of)
    (none_from now of (e + 1) parts each.1)

abbrev NoneOf : Open → Sort → Type 0
NoneOf now of = wrongs.first_of now of ≡ None

each_none : (now : Open) → wrongs.first_wrong now ≡ None → (of : Sort) → wrongs.first_of now of ≡ None
each_none now h of =
    let a = neither (wrongs.first_of now sort.Freed) _ h in
    let b = neither (wrongs.first_of now sort.Frozen) _ a.1 in
    let c = neither (wrongs.first_of now sort.Left) _ b.1 in
    let d = neither (wrongs.first_of now sort.Goes) _ c.1 in
    let f = neither (wrongs.first_of now sort.Walks) _ d.1 in
    let g = neither (wrongs.first_of now sort.Responses) _ f.1 in
    let i = neither (wrongs.first_of now sort.Joins) (wrongs.first_of now sort.Requests) g.1 in
    at of (a.0, b.0, c.0, d.0, f.0, g.0, i.0, i.1)
  where
    at : (it : Sort)
        → NoneOf now sort.Freed × NoneOf now sort.Frozen × NoneOf now sort.Left × NoneOf now sort.Goes
        × NoneOf now sort.Walks × NoneOf now sort.Responses × NoneOf now sort.Joins × NoneOf now sort.Requests
        → NoneOf now it
    at sort.Freed all = all.0
    at sort.Frozen all = all.1
    at sort.Left all = all.2
    at sort.Goes all = all.3
    at sort.Walks all = all.4
    at sort.Responses all = all.5
    at sort.Joins all = all.6
    at sort.Requests all = all.7

pub nothing_where_safe : (now : Open) → (wrongs.first_wrong now ≡ None) ↔ (is_safe now ≡ true)
nothing_where_safe now = (
  λ h. safe_from now 0 now.parts (each_none now h),
  λ h.
      let each = λ (of : Sort). none_from now of 0 now.parts h in
      none _ _ (each sort.Freed) (none _ _ (each sort.Frozen) (none _ _ (each sort.Left) (none _ _ (each sort.Goes)
      (none _ _ (each sort.Walks) (none _ _ (each sort.Responses) (none _ _ (each sort.Joins) (each sort.Requests))))))),
)

-- by what the program found
pub nothing_found_where_safe : (now : Open) (result : Option Wrong) → result ≡ wrongs.first_wrong now → (result ≡ None) ↔ (is_safe now ≡ true)
nothing_found_where_safe now result is = (
  λ h. (nothing_where_safe now).0 (sym is ∙ h),
  λ h. is ∙ (nothing_where_safe now).1 h,
)
