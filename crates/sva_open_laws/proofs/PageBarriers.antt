-- A barrier: what it leaves of the whole, and of a page, as it is awaited, comes and is passed.
use Rattle.std.proofs.Common.{◌≡◌, ◌∙◌, ℕ, suc, Bool, true, false, Option, Some, None, List, [], ◌∷◌, take, refl, ap, sym, subst}
use Rattle.std.specs.Prelude.{◌==◌, ◌&&◌, ◌||◌, remove, slice_get, filter}
use Rattle.std.specs.List.{list_any}
use Rattle.sva_open.specs.declared.frames.Mapping.{Mapping}
use Rattle.sva_open.specs.declared.messages.Barrier.{Barrier}
use Rattle.sva_open.specs.declared.messages.Message.{Message}
use Rattle.sva_open.specs.declared.messages.Message.TheVariants as message
use Rattle.sva_open.specs.declared.works.Group.{Group}
use Rattle.sva_open.specs.declared.works.Request.{Request}
use Rattle.sva_open.specs.declared.works.Work.{Work}
use Rattle.sva_open.specs.declared.works.Work.TheVariants.{Use, Taken, Draining}
use Rattle.sva_open.specs.declared.settings.Settings.{Settings}
use Rattle.sva_open.specs.declared.settings.Stopped.{Stopped}
use Rattle.sva_open.specs.declared.settings.Stopped.TheVariants.{Marker, Status, Known}
use Rattle.sva_open.specs.declared.acts.LocalAct.TheVariants as local
use Rattle.sva_open.specs.World.{Part, if_so, sent}
use Rattle.sva_open.specs.Devices as device
use Rattle.sva_open.specs.Host as host
use Rattle.sva_open_laws.specs.Pages.{is_left_at, is_work_at, its_message, its_part, its_sent, place_in}
use Rattle.sva_open_laws.proofs.Filters.{fewer, filter_left, get_in, remove_in, take_in, up_to}
use Rattle.sva_open_laws.proofs.PageActs.{IsLed, next_at, none_still, sends, where_so}
use Rattle.sva_open_laws.proofs.PageLists.{any}
use Rattle.sva_open_laws.proofs.PagePlaces.{with_works}
use Rattle.sva_open_laws.proofs.PageTimes.{neither}

pub barred : (page : ℕ) (part : Part) (barrier : Barrier) → its_part page (device.barred part barrier) ≡ device.barred (its_part page part) barrier
barred page part barrier = λ i. record (its_part page (device.barred part barrier)) {
  works = filter_left (is_work_at page) part.works (Draining barrier) refl i;
}

-- ---- it is awaited

brings_one : (page pasid thread : ℕ) (one : Message) → host.brings_one pasid thread one ≡ host.brings_one pasid thread (its_message page one)
brings_one page pasid thread (message.Completion tag own target) = refl
brings_one page pasid thread _ = refl

pub await_passed : (page : ℕ) (part : Part) (pasid thread : ℕ)
    → IsLed page (host.await_passed part pasid thread) (host.await_passed (its_part page part) pasid thread)
await_passed page part pasid thread = where_so page _ _ _ _
    (neither _ _ _ _
    (any (host.is_of_barrier pasid thread) (host.is_of_barrier pasid thread) (its_sent page) (λ one. brings_one page pasid thread one.message) part.flight)
    (fewer (is_work_at page) (host.drains pasid thread) part.works)) refl

-- ---- what holds it up of a page holds it up of the whole

pub and_none : (a b c : Bool) → (b ≡ false → c ≡ false) → a && b ≡ false → a && c ≡ false
and_none true b c h none = h none
and_none false b c h none = refl

pub or_none : (a b c d : Bool) → (a ≡ false → c ≡ false) → (b ≡ false → d ≡ false) → a || b ≡ false → c || d ≡ false
or_none true b c d h k none = absurd (cc)
or_none false b c d h k none = ap (λ t. t || d) (h refl) ∙ k none

pub none_of : {A : Type 0} (p q : A → Bool) → ((x : A) → p x ≡ false → q x ≡ false) → (xs : List A) → list_any p xs ≡ false → list_any q xs ≡ false
none_of p q so [] h = refl
none_of p q so (x ∷ xs) h = or_none (p x) (list_any p xs) (q x) (list_any q xs) (so x) (none_of p q so xs) h

older : (page : ℕ) (works : List Work) (noted : Option ℕ) → device.is_older works noted ≡ false
    → device.is_older (filter (is_work_at page) works) noted ≡ false
older page works None h = refl
older page works (Some name) h = fewer (is_work_at page) (device.is_barrier name) works h

asked : (page : ℕ) (works : List Work) (pasid : ℕ) (request : Option Request) → device.is_asked_before works pasid request ≡ false
    → device.is_asked_before (filter (is_work_at page) works) pasid request ≡ false
asked page works pasid None h = refl
asked page works pasid (Some request) h = and_none (request.pasid == pasid) _ _ (older page works request.noted) h

begun : (page : ℕ) (works : List Work) (awaits : Bool) (pasid : ℕ) (group : Option Group) → device.is_begun_before works awaits pasid group ≡ false
    → device.is_begun_before (filter (is_work_at page) works) awaits pasid group ≡ false
begun page works awaits pasid None h = refl
begun page works awaits pasid (Some group) h =
    and_none (device.is_unended awaits pasid (Some group)) _ _ (older page works group.noted) h

let_by : (page : ℕ) (part : Part) (place : ℕ) (barrier : Barrier) → slice_get part.works place ≡ Some (Draining barrier)
    → device.is_held_up part place barrier ≡ false
    → device.is_held_up (its_part page part) (place_in (is_work_at page) part.works place) barrier ≡ false
let_by page part place barrier is =
    let keep = is_work_at page in
    let same = up_to keep part.works place (Draining barrier) is refl in
    or_none _ _ _ _
    (λ none. ap (list_any (device.is_use_under barrier.pasid)) (take_in keep part.works place)
    ∙ fewer keep (device.is_use_under barrier.pasid) (take place part.works) none)
    (or_none _ _ _ _
    (λ none. ap (λ (works : List Work). list_any (device.is_asked_before works barrier.pasid) part.requests) same
    ∙ none_of _ _ (asked page (take (suc place) part.works) barrier.pasid) part.requests none)
    (λ none. ap (λ (works : List Work). list_any (device.is_begun_before works part.awaits barrier.pasid) part.groups) same
    ∙ none_of _ _ (begun page (take (suc place) part.works) part.awaits barrier.pasid) part.groups none))

-- ---- it is passed

answered : (page : ℕ) (stopped : Stopped) (part : Part) (place : ℕ) (barrier : Barrier) → slice_get part.works place ≡ Some (Draining barrier)
    → its_part page (device.passed stopped (record part { works = remove part.works place }) barrier)
    ≡ device.passed stopped
    (record (its_part page part) { works = remove (filter (is_work_at page) part.works) (place_in (is_work_at page) part.works place) }) barrier
answered page Marker part place barrier is =
    sends page (record part { works = remove part.works place }) 0 part.time (message.Passed barrier)
    ∙ ap (λ (works : List Work). sent (record (its_part page part) { works = works }) 0 part.time (message.Passed barrier))
    (remove_in (is_work_at page) part.works place (Draining barrier) is refl)
answered page Status part place barrier is =
    sends page (record part { works = remove part.works place }) 0 part.time (message.Passed barrier)
    ∙ ap (λ (works : List Work). sent (record (its_part page part) { works = works }) 0 part.time (message.Passed barrier))
    (remove_in (is_work_at page) part.works place (Draining barrier) is refl)
answered page Known part place barrier is =
    with_works page part _ _ (remove_in (is_work_at page) part.works place (Draining barrier) is refl)

passed : (page : ℕ) (stopped : Stopped) (part : Part) (place : ℕ) (barrier : Barrier) → slice_get part.works place ≡ Some (Draining barrier)
    → IsLed page (device.pass stopped part place (Some (Draining barrier)))
    (device.pass stopped (its_part page part) (place_in (is_work_at page) part.works place) (Some (Draining barrier)))
passed page stopped part place barrier is =
    where_so page _ _ _ _ (none_still _ _ (let_by page part place barrier is)) (answered page stopped part place barrier is)

pub pass : (page : ℕ) (settings : Settings) (mappings : List Mapping) (part : Part) (place : ℕ) (o : Option Work) → slice_get part.works place ≡ o
    → IsLed page (device.pass settings.stopped part place o)
    (next_at page settings mappings part (if_so (is_left_at (is_work_at page) o) (local.Pass (place_in (is_work_at page) part.works place))))
pass page settings mappings part place None h = tt
pass page settings mappings part place (Some (Use translation)) h = tt
pass page settings mappings part place (Some (Taken itag scope)) h = tt
pass page settings mappings part place (Some (Draining barrier)) h =
    subst (λ (o : Option Work). IsLed page (device.pass settings.stopped part place (Some (Draining barrier)))
    (device.pass settings.stopped (its_part page part) (place_in (is_work_at page) part.works place) o))
    (sym (get_in (is_work_at page) part.works place (Draining barrier) h refl))
    (passed page settings.stopped part place barrier h)
