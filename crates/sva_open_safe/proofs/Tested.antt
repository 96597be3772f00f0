-- The test of a moment says what is meant.
use Rattle.std.proofs.Common.{◌≡◌, ◌⊎◌, inl, inr, ℕ, Bool, true, false, not, Option, Some, None, List, refl, ap, sym, subst, ◌∙◌}
use Rattle.std.proofs.lemmas.Bool.{and_from, and_parts, eq-eqb, eqb-true, not-false, not-true}
use Rattle.std.proofs.lemmas.List.Elements.{Contains-get_or}
use Rattle.std.proofs.lemmas.Option.{same_Some}
use Rattle.std.proofs.lemmas.List.Folds.{Any-from_list_any, list_any-from_Any}
use Rattle.std.proofs.lemmas.List.Sums.{AllPass-from_list_all, list_all-from_AllPass}
use Rattle.std.specs.Prelude.{◌↔◌, ◌==◌, ◌&&◌, ◌||◌, Contains, is_none, slice_get, slice_index_or, IfSome}
use Rattle.std.specs.List.{list_all}
use Rattle.sva_open.specs.declared.frames.Tenure.{Tenure}
use Rattle.sva_open.specs.declared.frames.Target.{Target}
use Rattle.sva_open.specs.declared.frames.Translation.{Translation}
use Rattle.sva_open.specs.declared.rows.Entry.{Entry}
use Rattle.sva_open.specs.declared.rows.Row.{Row}
use Rattle.sva_open.specs.declared.messages.Message.{Message}
use Rattle.sva_open.specs.declared.messages.Message.TheVariants as message
use Rattle.sva_open.specs.declared.messages.Sent.{Sent}
use Rattle.sva_open.specs.declared.works.Request.{Request}
use Rattle.sva_open.specs.declared.works.Group.{Group}
use Rattle.sva_open.specs.declared.works.Work.{Work}
use Rattle.sva_open.specs.declared.works.Work.TheVariants.{Use, Taken, Draining}
use Rattle.sva_open.specs.declared.descriptors.Arrived.{Arrived}
use Rattle.sva_open.specs.declared.descriptors.Filed.{Filed}
use Rattle.sva_open.specs.declared.descriptors.Received.{Received}
use Rattle.sva_open.specs.declared.descriptors.Received.TheVariants.{Request as Asked, Drain}
use Rattle.sva_open.specs.declared.settings.Settings.{Settings}
use Rattle.sva_open.specs.World.{Open, Part, group_at, is_off}
use Rattle.sva_open.specs.Host.{is_group, is_joined}
use Rattle.sva_open.specs.Safe.{EndsItsGroup, EndsNone, IsCurrent, IsGood, IsItsOwn, IsOwned, IsPresent, IsRight, IsSafe, IsSafePart}
use Rattle.sva_open.specs.Checks.{IsTest, ends_its_group, ends_none, is_answer_owned, is_current, is_current_at, is_entry_owned, is_its_end, is_freed, is_good}
use Rattle.sva_open.specs.Checks.{is_good_arrived, is_good_entry, is_good_kept, is_good_request, is_good_work, is_its_own, is_owned, is_owner}
use Rattle.sva_open.specs.Checks.{is_present, is_right, is_right_sent, is_safe, is_safe_device, is_safe_part, is_safe_unit, joins_own, joins_own_group}
use Rattle.sva_open.specs.Checks.{are_good_filed, is_good_filed, is_good_received, is_of_endpoint, is_safe_for_workers, is_space_there, may_be_held}

-- ---- tests

other : (a b : Bool) → a || b ≡ true → a ≡ false → b ≡ true
other true b h k = absurd (cc)
other false b h k = h

or_by : (a b : Bool) → (a ≡ false → b ≡ true) → a || b ≡ true
or_by true b h = refl
or_by false b h = h refl

pub not_true : (a : Bool) → not a ≡ true → a ≡ true → ⊥
not_true true h k = absurd (cc)
not_true false h k = absurd (cc)

pub not_by : (a : Bool) → (a ≡ true → ⊥) → not a ≡ true
not_by true h = absurd (h refl)
not_by false h = refl

-- ---- lists

each_of : {X : Type 0} (p : X → Bool) (xs : List X) → list_all p xs ≡ true → (x : X) → Contains xs x → p x ≡ true
each_of p xs h x has = sym (ap p has.2) ∙ AllPass-from_list_all p xs h has.0 x has.1

all_of : {X : Type 0} (p : X → Bool) (xs : List X) → ((x : X) → Contains xs x → p x ≡ true) → list_all p xs ≡ true
all_of p xs each = list_all-from_AllPass p xs (λ k d low. each (slice_index_or xs k d) (Contains-get_or xs k d low))

freed_has : (freed : List ℕ) (space : ℕ) → is_freed freed space ≡ true → Contains freed space
freed_has freed space h =
    let any = Any-from_list_any (λ one. one == space) freed h in
    let same : any.1 ≡ space = eqb-true any.1 space any.4 in
    subst (λ one. Contains freed one) same (any.0, any.2, any.3)

has_freed : (freed : List ℕ) (space : ℕ) → Contains freed space → is_freed freed space ≡ true
has_freed freed space has = list_any-from_Any (λ one. one == space) freed (has.0, space, has.1, has.2, eq-eqb space space refl)

not_freed : (freed : List ℕ) (space : ℕ) → not (is_freed freed space) ≡ true → Contains freed space → ⊥
not_freed freed space h has = not_true (is_freed freed space) h (has_freed freed space has)

freed_not : (freed : List ℕ) (space : ℕ) → (Contains freed space → ⊥) → not (is_freed freed space) ≡ true
freed_not freed space h = not_by (is_freed freed space) (λ k. h (freed_has freed space k))

-- ---- frames and owners

current_at : (frames : List Tenure) (target : Target) (found : Option Tenure) → slice_get frames target.frame ≡ found
    → is_current_at target found ≡ true → IsCurrent frames target
current_at frames target None is h = absurd (cc)
current_at frames target (Some now) is h =
    let each = and_parts _ _ h in
    record {
      now = now;
      found = is;
      given = eqb-true _ _ each.0;
      frozen = λ write. eqb-true _ _ (other _ _ each.1 (ap not write));
    }

current : (frames : List Tenure) (target : Target) → is_current frames target ≡ true → IsCurrent frames target
current frames target h = current_at frames target (slice_get frames target.frame) refl h

is_current_by : (frames : List Tenure) (target : Target) → IsCurrent frames target → is_current frames target ≡ true
is_current_by frames target c =
    ap (is_current_at target) c.found
    ∙ and_from _ _ (eq-eqb _ _ c.given) (or_by (not target.write) _ (λ k. eq-eqb _ _ (c.frozen (not-false target.write k))))

present_at : (part : Part) (pasid owner : ℕ) (found : Option Row) → slice_get part.rows pasid ≡ found → is_owner owner found ≡ true
    → IsPresent part pasid owner
present_at part pasid owner None is h = absurd (cc)
present_at part pasid owner (Some row) is h = record { row = row; found = is; same = eqb-true owner row.owner h }

present : (part : Part) (pasid owner : ℕ) → is_present part pasid owner ≡ true → IsPresent part pasid owner
present part pasid owner h = present_at part pasid owner (slice_get part.rows pasid) refl h

is_present_by : (part : Part) (pasid owner : ℕ) → IsPresent part pasid owner → is_present part pasid owner ≡ true
is_present_by part pasid owner p = ap (is_owner owner) p.found ∙ eq-eqb owner p.row.owner p.same

good : (frames : List Tenure) (part : Part) (translation : Translation) → is_good frames part translation ≡ true
    → IsGood frames part translation
good frames part translation h =
    let each = and_parts _ _ h in
    record {
      frame = current frames translation.target each.0;
      owner = present part translation.pasid translation.owner each.1;
    }

is_good_by : (frames : List Tenure) (part : Part) (translation : Translation) → IsGood frames part translation
    → is_good frames part translation ≡ true
is_good_by frames part translation g =
    and_from _ _ (is_current_by frames translation.target g.frame) (is_present_by part translation.pasid translation.owner g.owner)

-- ---- the endpoint

good_work : (frames : List Tenure) (part : Part) (s : (translation : Translation) → Contains part.works (Use translation) → IsGood frames part translation)
    (work : Work) → Contains part.works work → is_good_work frames part work ≡ true
good_work frames part s (Use translation) has = is_good_by frames part translation (s translation has)
good_work frames part s (Taken itag scope) has = refl
good_work frames part s (Draining barrier) has = refl

good_request : (part : Part)
    (s : (request : Request) → Contains part.requests (Some request) → request.is_doomed ≡ false → IsPresent part request.pasid request.owner)
    (request : Option Request) → Contains part.requests request → is_good_request part request ≡ true
good_request part s None has = refl
good_request part s (Some request) has =
    or_by request.is_doomed _ (λ k. is_present_by part request.pasid request.owner (s request has k))

-- ---- what is in flight

held : (frames : List Tenure) (target : Option Target) → may_be_held frames target ≡ true → IfSome target (IsCurrent frames)
held frames None h = tt
held frames (Some target) h = current frames target h

may_be_held_by : (frames : List Tenure) (target : Option Target) → IfSome target (IsCurrent frames) → may_be_held frames target ≡ true
may_be_held_by frames None h = refl
may_be_held_by frames (Some target) h = is_current_by frames target h

its_own : (frames : List Tenure) (part : Part) (one : Sent) (page : ℕ) (target : Option Target) (request : Request)
    → is_its_own frames part one page target (Some (Some request)) ≡ true → IsItsOwn frames part one page target request
its_own frames part one page target request h =
    let each = and_parts ((one.number == part.time) && (page == request.page)) _ h in
    let own = and_parts (one.number == part.time) (page == request.page) each.0 in
    record {
      time = eqb-true _ _ own.0;
      same = eqb-true _ _ own.1;
      frame = λ k. held frames target (other request.is_doomed _ each.1 k);
    }

is_its_own_by : (frames : List Tenure) (part : Part) (one : Sent) (page : ℕ) (target : Option Target) (found : Option (Option Request))
    → ((request : Request) → found ≡ Some (Some request) → IsItsOwn frames part one page target request)
    → is_its_own frames part one page target found ≡ true
is_its_own_by frames part one page target None s = refl
is_its_own_by frames part one page target (Some None) s = refl
is_its_own_by frames part one page target (Some (Some request)) s =
    let own = s request refl in
    and_from ((one.number == part.time) && (page == request.page)) _ (and_from _ _ (eq-eqb _ _ own.time) (eq-eqb _ _ own.same))
    (or_by request.is_doomed _ (λ k. may_be_held_by frames target (own.frame k)))

ends_at : (part : Part) (one : Sent) (index : ℕ) (found : Option (Option Group)) → slice_get part.groups index ≡ found
    → is_its_end one.number found ≡ true → EndsItsGroup part one index
ends_at part one index None is h = absurd (cc)
ends_at part one index (Some None) is h = absurd (cc)
ends_at part one index (Some (Some group)) is h =
    let each = and_parts (one.number == group.number) _ h in
    record { group = group; found = is; number = eqb-true _ _ each.0; finished = each.1 }

ends_by : (part : Part) (one : Sent) (index : ℕ) → EndsItsGroup part one index → ends_its_group part one index ≡ true
ends_by part one index e = ap (is_its_end one.number) e.found ∙ and_from _ _ (eq-eqb _ _ e.number) e.finished

no_group : (found : Option Group) → is_none found ≡ true → found ≡ None
no_group None h = refl
no_group (Some group) h = absurd (cc)

none_ended : (settings : Settings) (part : Part) (index : ℕ) → ends_none settings part index ≡ true → EndsNone settings part index
none_ended settings part index h =
    let each = and_parts (settings.allows_no_group || part.is_gone) _ h in
    record { allowed = each.0; none = no_group (group_at (slice_get part.groups index)) each.1 }

none_ended_by : (settings : Settings) (part : Part) (index : ℕ) → EndsNone settings part index → ends_none settings part index ≡ true
none_ended_by settings part index e = and_from (settings.allows_no_group || part.is_gone) _ e.allowed (ap is_none e.none)

either : (a b : Bool) → a || b ≡ true → (a ≡ true) ⊎ (b ≡ true)
either true b h = inl refl
either false b h = inr h

responds : (settings : Settings) (part : Part) (one : Sent) (index : ℕ) (filed : Bool)
    → (filed && ends_its_group part one index ≡ true) ⊎ (ends_none settings part index ≡ true)
    → ((filed ≡ true) × EndsItsGroup part one index) ⊎ EndsNone settings part index
responds settings part one index filed (inl h) =
    let each = and_parts filed _ h in inl (each.0, ends_at part one index (slice_get part.groups index) refl each.1)
responds settings part one index filed (inr h) = inr (none_ended settings part index h)

responds_by : (settings : Settings) (part : Part) (one : Sent) (index : ℕ) (filed : Bool)
    → ((filed ≡ true) × EndsItsGroup part one index) ⊎ EndsNone settings part index
    → (filed && ends_its_group part one index) || ends_none settings part index ≡ true
responds_by settings part one index filed (inl r) =
    ap (λ b. b || ends_none settings part index) (and_from filed _ r.0 (ends_by part one index r.1))
responds_by settings part one index filed (inr r) = or_by _ _ (λ k. none_ended_by settings part index r)

right : (settings : Settings) (frames : List Tenure) (part : Part) (one : Sent) (it : Message)
    → is_right settings frames part one it ≡ true → IsRight settings frames part one it
right settings frames part one (message.Start pasid) h = λ k. present part pasid one.owner (other part.is_gone _ h k)
right settings frames part one (message.Stop pasid) h = λ k. present part pasid one.owner (other part.is_gone _ h k)
right settings frames part one message.Reset h = tt
right settings frames part one (message.Completion tag page target) h =
    λ request is. its_own frames part one page target request (sym (ap (is_its_own frames part one page target) is) ∙ h)
right settings frames part one (message.Invalidate itag scope) h = tt
right settings frames part one (message.Response index fails filed) h =
    responds settings part one index filed (either (filed && ends_its_group part one index) _ h)
right settings frames part one (message.Request tag pasid page) h = tt
right settings frames part one (message.Invalidated itag) h = tt
right settings frames part one (message.PageRequest request) h = λ k. present part request.pasid one.owner (other (not part.is_open) _ h (ap not k))
right settings frames part one (message.Marker pasid) h = λ k. present part pasid one.owner (other (not part.is_open) _ h (ap not k))
right settings frames part one (message.Status pasid) h = present part pasid one.owner h
right settings frames part one message.ResetDone h = tt
right settings frames part one (message.Barrier barrier) h = tt
right settings frames part one (message.Passed barrier) h = tt

is_right_by : (settings : Settings) (frames : List Tenure) (part : Part) (one : Sent) (it : Message)
    → IsRight settings frames part one it → is_right settings frames part one it ≡ true
is_right_by settings frames part one (message.Start pasid) r = or_by part.is_gone _ (λ k. is_present_by part pasid one.owner (r k))
is_right_by settings frames part one (message.Stop pasid) r = or_by part.is_gone _ (λ k. is_present_by part pasid one.owner (r k))
is_right_by settings frames part one message.Reset r = refl
is_right_by settings frames part one (message.Completion tag page target) r = is_its_own_by frames part one page target (slice_get part.requests tag) r
is_right_by settings frames part one (message.Invalidate itag scope) r = refl
is_right_by settings frames part one (message.Response index fails filed) r = responds_by settings part one index filed r
is_right_by settings frames part one (message.Request tag pasid page) r = refl
is_right_by settings frames part one (message.Invalidated itag) r = refl
is_right_by settings frames part one (message.PageRequest request) r =
    or_by (not part.is_open) _ (λ k. is_present_by part request.pasid one.owner (r (not-false part.is_open k)))
is_right_by settings frames part one (message.Marker pasid) r =
    or_by (not part.is_open) _ (λ k. is_present_by part pasid one.owner (r (not-false part.is_open k)))
is_right_by settings frames part one (message.Status pasid) r = is_present_by part pasid one.owner r
is_right_by settings frames part one message.ResetDone r = refl
is_right_by settings frames part one (message.Barrier barrier) r = refl
is_right_by settings frames part one (message.Passed barrier) r = refl

-- ---- the unit

-- what is asked of the endpoint's own page requests alone
if_own : (part : Part) (one : Arrived) {b : Bool} → (one.endpoint ≡ part.endpoint → b ≡ true) → not (is_of_endpoint part.endpoint one) || b ≡ true
if_own part one h = or_by (not (is_of_endpoint part.endpoint one)) _ (λ k. h (eqb-true one.endpoint part.endpoint (not-false _ k)))

own_present : (part : Part) (one : Arrived) → is_good_arrived part one ≡ true → one.endpoint ≡ part.endpoint → IsPresent part one.request.pasid one.owner
own_present part one h own = present part one.request.pasid one.owner (other _ _ h (ap not (eq-eqb one.endpoint part.endpoint own)))

own_present_by : (part : Part) (one : Arrived) → (one.endpoint ≡ part.endpoint → IsPresent part one.request.pasid one.owner)
    → is_good_arrived part one ≡ true
own_present_by part one s = if_own part one (λ own. is_present_by part one.request.pasid one.owner (s own))

abbrev JoinsOwn : Part → Type 0
JoinsOwn part =
    (one : Arrived) (filed : Filed) → slice_get part.arrived 0 ≡ Some one → one.endpoint ≡ part.endpoint → Contains part.filed filed
    → filed.is_whole ≡ false → filed.pasid ≡ one.request.pasid → filed.index ≡ one.request.index → filed.number ≡ one.number

joined : (part : Part) → joins_own_group part.endpoint part.filed (slice_get part.arrived 0) ≡ true → JoinsOwn part
joined part h one filed is own has unfinished pasid index =
    let test : list_all (joins_own one) part.filed ≡ true =
    other _ _ (sym (ap (joins_own_group part.endpoint part.filed) is) ∙ h) (ap not (eq-eqb one.endpoint part.endpoint own)) in
    let joins : is_joined one.request filed ≡ true =
    and_from _ _ (ap not unfinished) (and_from _ _ (eq-eqb _ _ pasid) (eq-eqb _ _ index)) in
    eqb-true _ _ (other _ _ (each_of (joins_own one) part.filed test filed has) (ap not joins))

joins_own_by : (part : Part) → JoinsOwn part → (one : Arrived) → slice_get part.arrived 0 ≡ Some one → one.endpoint ≡ part.endpoint
    → (filed : Filed) → Contains part.filed filed → joins_own one filed ≡ true
joins_own_by part s one is own filed has =
    or_by (not (is_joined one.request filed)) _ (λ k.
    let joins = and_parts (not filed.is_whole) (is_group one.request.pasid one.request.index filed) (not-false _ k) in
    let same = and_parts _ _ joins.1 in
    eq-eqb _ _ (s one filed is own has (not-true filed.is_whole joins.0) (eqb-true _ _ same.0) (eqb-true _ _ same.1)))

joins_by : (part : Part) → JoinsOwn part → (first : Option Arrived) → slice_get part.arrived 0 ≡ first
    → joins_own_group part.endpoint part.filed first ≡ true
joins_by part s None is = refl
joins_by part s (Some one) is = if_own part one (λ own. all_of (joins_own one) part.filed (λ filed has. joins_own_by part s one is own filed has))

-- ---- the PASIDs

entry_owned : (freed : List ℕ) (row : Row) (entry : Entry) → is_entry_owned freed row row.entry ≡ true → row.entry ≡ Some entry
    → (entry.owner ≡ row.owner) × (Contains freed entry.space → ⊥)
entry_owned freed row entry h is =
    let each = and_parts _ _ (sym (ap (is_entry_owned freed row) is) ∙ h) in
    (eqb-true _ _ each.0, not_freed freed entry.space each.1)

entry_owned_by : (freed : List ℕ) (row : Row) (found : Option Entry)
    → ((entry : Entry) → found ≡ Some entry → (entry.owner ≡ row.owner) × (Contains freed entry.space → ⊥))
    → is_entry_owned freed row found ≡ true
entry_owned_by freed row None s = refl
entry_owned_by freed row (Some entry) s = and_from _ _ (eq-eqb _ _ (s entry refl).0) (freed_not freed entry.space (s entry refl).1)

answer_owned_by : (row : Row) (found : Option ℕ) → ((owner : ℕ) → found ≡ Some owner → owner ≡ row.owner)
    → is_answer_owned row found ≡ true
answer_owned_by row None s = refl
answer_owned_by row (Some owner) s = eq-eqb owner row.owner (s owner refl)

owned : (freed : List ℕ) (row : Row) → is_owned freed row ≡ true → IsOwned freed row
owned freed row h =
    let each = and_parts (is_entry_owned freed row row.entry) (is_answer_owned row row.answer && (is_off row.state || (row.user == row.owner))) h in
    let rest = and_parts (is_answer_owned row row.answer) (is_off row.state || (row.user == row.owner)) each.1 in
    record {
      entry = λ entry is. (entry_owned freed row entry each.0 is).0;
      walked = λ entry is. (entry_owned freed row entry each.0 is).1;
      answer = λ owner is. eqb-true owner row.owner (sym (ap (is_answer_owned row) is) ∙ rest.0);
      user = λ k. eqb-true row.user row.owner (other (is_off row.state) _ rest.1 k);
    }

is_owned_by : (freed : List ℕ) (row : Row) → IsOwned freed row → is_owned freed row ≡ true
is_owned_by freed row s =
    and_from _ _ (entry_owned_by freed row row.entry (λ entry is. (s.entry entry is, s.walked entry is)))
    (and_from _ _ (answer_owned_by row row.answer s.answer) (or_by (is_off row.state) _ (λ k. eq-eqb _ _ (s.user k))))

-- ---- the whole

served : (domains : List ℕ) (space : Option ℕ) → is_space_there domains space ≡ true → (own : ℕ) → space ≡ Some own → Contains domains own → ⊥
served domains None h own is has = absurd (cc)
served domains (Some space) h own is has =
    let same : space ≡ own = same_Some _ _ is in not_freed domains own (subst (λ s. not (is_freed domains s) ≡ true) same h) has

served_by : (domains : List ℕ) (space : Option ℕ) → ((own : ℕ) → space ≡ Some own → Contains domains own → ⊥) → is_space_there domains space ≡ true
served_by domains None s = refl
served_by domains (Some space) s = freed_not domains space (s space refl)

-- a whole group, where there are workers
filed_good : (settings : Settings) (domains : List ℕ) (part : Part) → are_good_filed settings domains part ≡ true
    → settings.has_workers ≡ true → (filed : Filed) → Contains part.filed filed → filed.is_whole ≡ true
    → is_present part filed.pasid filed.owner && is_space_there domains filed.space ≡ true
filed_good settings domains part h works filed has whole =
    other (not filed.is_whole) _
    (each_of (is_good_filed domains part) part.filed (other (not settings.has_workers) _ h (ap not works)) filed has) (ap not whole)

received_by : (part : Part)
    (s : (one : Arrived) → Contains part.received (Asked one) → one.endpoint ≡ part.endpoint → IsPresent part one.request.pasid one.owner)
    (one : Received) → Contains part.received one → is_good_received part one ≡ true
received_by part s (Asked one) has = own_present_by part one (s one has)
received_by part s (Drain name) has = refl

filed_by : (settings : Settings) (frames : List Tenure) (freed domains : List ℕ) (part : Part) → IsSafePart settings frames freed domains part
    → are_good_filed settings domains part ≡ true
filed_by settings frames freed domains part s =
    or_by (not settings.has_workers) _ (λ k.
    let works = not-false settings.has_workers k in
    all_of (is_good_filed domains part) part.filed (λ filed has. or_by (not filed.is_whole) _ (λ l.
    let whole = not-false filed.is_whole l in
    and_from _ _ (is_present_by part filed.pasid filed.owner (s.filed works filed has whole))
    (served_by domains filed.space (s.served works filed has whole)))))

safe_part : (settings : Settings) (frames : List Tenure) (freed domains : List ℕ) (part : Part)
    → is_safe_part settings frames freed domains part ≡ true → IsSafePart settings frames freed domains part
safe_part settings frames freed domains part h =
    let top = and_parts (is_safe_device frames part) _ h in
    let next = and_parts (is_safe_unit freed part) _ top.1 in
    let then = and_parts (is_safe_for_workers settings domains part) _ next.1 in
    let way = and_parts (list_all (is_good_received part) part.received) (are_good_filed settings domains part) then.0 in
    let last = and_parts (list_all (is_right_sent settings frames part) part.flight) (list_all (is_owned freed) part.rows) then.1 in
    let device = and_parts (list_all (is_good frames part) part.held) _ top.0 in
    let works = and_parts (list_all (is_good_work frames part) part.works) (list_all (is_good_request part) part.requests) device.1 in
    let unit = and_parts (list_all (is_good_arrived part) part.arrived) _ next.0 in
    let queue = and_parts (joins_own_group part.endpoint part.filed (slice_get part.arrived 0)) _ unit.1 in
    let kept = and_parts (list_all (is_good_kept part) part.kept) (list_all (is_good_entry freed part) part.kept_entries) queue.1 in
    record {
      held = λ translation has. good frames part translation (each_of (is_good frames part) part.held device.0 translation has);
      in_use = λ translation has. good frames part translation (each_of (is_good_work frames part) part.works works.0 (Use translation) has);
      asked = λ request has k. present part request.pasid request.owner
          (other request.is_doomed _ (each_of (is_good_request part) part.requests works.1 (Some request) has) k);
      flight = λ one has. right settings frames part one one.message (each_of (is_right_sent settings frames part) part.flight last.0 one has);
      arrived = λ one has. own_present part one (each_of (is_good_arrived part) part.arrived unit.0 one has);
      joined = joined part queue.0;
      received = λ one has. own_present part one (each_of (is_good_received part) part.received way.0 (Asked one) has);
      filed = λ works filed has whole. present part filed.pasid filed.owner
          (and_parts _ _ (filed_good settings domains part way.1 works filed has whole)).0;
      served = λ works filed has whole. served domains filed.space
          (and_parts (is_present part filed.pasid filed.owner) _ (filed_good settings domains part way.1 works filed has whole)).1;
      rows = λ row has. owned freed row (each_of (is_owned freed) part.rows last.1 row has);
      kept = λ translation has. present part translation.pasid translation.owner (each_of (is_good_kept part) part.kept kept.0 translation has);
      kept_entries = λ one has. present part one.pasid one.entry.owner
          (and_parts _ _ (each_of (is_good_entry freed part) part.kept_entries kept.1 one has)).0;
      walked = λ one has. not_freed freed one.entry.space (and_parts _ _ (each_of (is_good_entry freed part) part.kept_entries kept.1 one has)).1;
    }

is_safe_part_by : (settings : Settings) (frames : List Tenure) (freed domains : List ℕ) (part : Part)
    → IsSafePart settings frames freed domains part → is_safe_part settings frames freed domains part ≡ true
is_safe_part_by settings frames freed domains part s =
    and_from (is_safe_device frames part) _
    (and_from (list_all (is_good frames part) part.held) _
    (all_of (is_good frames part) part.held (λ translation has. is_good_by frames part translation (s.held translation has)))
    (and_from (list_all (is_good_work frames part) part.works) _
    (all_of (is_good_work frames part) part.works (λ work has. good_work frames part s.in_use work has))
    (all_of (is_good_request part) part.requests (λ request has. good_request part s.asked request has))))
    (and_from (is_safe_unit freed part) _
    (and_from (list_all (is_good_arrived part) part.arrived) _
    (all_of (is_good_arrived part) part.arrived (λ one has. own_present_by part one (s.arrived one has)))
    (and_from (joins_own_group part.endpoint part.filed (slice_get part.arrived 0)) _ (joins_by part s.joined (slice_get part.arrived 0) refl)
    (and_from (list_all (is_good_kept part) part.kept) _
    (all_of (is_good_kept part) part.kept (λ one has. is_present_by part one.pasid one.owner (s.kept one has)))
    (all_of (is_good_entry freed part) part.kept_entries (λ one has.
    and_from _ _ (is_present_by part one.pasid one.entry.owner (s.kept_entries one has)) (freed_not freed one.entry.space (s.walked one has)))))))
    (and_from (is_safe_for_workers settings domains part) _
    (and_from (list_all (is_good_received part) part.received) _ (all_of (is_good_received part) part.received (received_by part s.received))
    (filed_by settings frames freed domains part s))
    (and_from (list_all (is_right_sent settings frames part) part.flight) _
    (all_of (is_right_sent settings frames part) part.flight (λ one has. is_right_by settings frames part one one.message (s.flight one has)))
    (all_of (is_owned freed) part.rows (λ row has. is_owned_by freed row (s.rows row has))))))

pub is_test : IsTest
is_test now = (
  λ h. record {
    parts = λ part has. safe_part now.settings now.frames now.freed now.domains part
        (each_of (is_safe_part now.settings now.frames now.freed now.domains) now.parts h part has);
  },
  λ s. all_of (is_safe_part now.settings now.frames now.freed now.domains) now.parts
      (λ part has. is_safe_part_by now.settings now.frames now.freed now.domains part (s.parts part has)),
)

-- by what the program's test gave
pub is_test_of : (now : Open) (result : Bool) → result ≡ is_safe now → (result ≡ true) ↔ IsSafe now
is_test_of now result is = ((λ h. (is_test now).0 (sym is ∙ h)), (λ s. is ∙ (is_test now).1 s))
