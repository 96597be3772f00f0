-- What an act at an endpoint leaves, and what of a page: the acts of one page or of a place among what is of pages; and what a unit
-- does by itself.
use Rattle.std.proofs.Common.{arith, ◌≡◌, ◌∙◌, ℕ, Bool, true, false, Option, Some, None, option_map, List, length, take, refl, ap, sym, subst}
use Rattle.std.proofs.lemmas.Bool.Decides.{nat_tests}
use Rattle.std.specs.Prelude.{◌==◌, ◌&&◌, ◌||◌, not, if◌then◌else◌, remove, position, slice_get, filter, find}
use Rattle.std.specs.List.{list_any}
use Rattle.sva_open.specs.declared.frames.Mapping.{Mapping}
use Rattle.sva_open.specs.declared.frames.Translation.{Translation}
use Rattle.sva_open.specs.declared.scopes.Scope.{Scope}
use Rattle.sva_open.specs.declared.rows.Row.{Row}
use Rattle.sva_open.specs.declared.rows.KeptEntry.{KeptEntry}
use Rattle.sva_open.specs.declared.messages.Message.TheVariants as message
use Rattle.sva_open.specs.declared.works.Work.{Work}
use Rattle.sva_open.specs.declared.works.Work.TheVariants.{Use, Taken, Draining}
use Rattle.sva_open.specs.declared.descriptors.Descriptor.{Descriptor}
use Rattle.sva_open.specs.declared.descriptors.Descriptor.TheVariants as descriptor
use Rattle.sva_open.specs.declared.settings.Settings.{Settings}
use Rattle.sva_open.specs.declared.acts.LocalAct.TheVariants as local
use Rattle.sva_open.specs.World.{Part, if_so, is_left, is_of, sent}
use Rattle.sva_open.specs.Devices as device
use Rattle.sva_open.specs.Units as unit
use Rattle.sva_open_laws.specs.Pages.{is_at, is_left_at, is_work_at, its_part, place_in}
use Rattle.sva_open_laws.proofs.Filters.{fewer, filter_both, filter_left, filter_without, find_in, find_passes, get_in, position_get}
use Rattle.sva_open_laws.proofs.Filters.{position_in, remove_gone, remove_in, take_in}
use Rattle.sva_open_laws.proofs.PageActs.{IsLed, next_at, sends, waits, where_open, where_so}

-- parts that are the same but for one list, of which the same is left
pub with_works : (page : ℕ) (part : Part) (one other : List Work) → filter (is_work_at page) one ≡ other
    → its_part page (record part { works = one }) ≡ record (its_part page part) { works = other }
with_works page part one other h = λ i. record (its_part page part) { works = h i }

pub with_held : (page : ℕ) (part : Part) (one other : List Translation) → filter (is_at page) one ≡ other
    → its_part page (record part { held = one }) ≡ record (its_part page part) { held = other }
with_held page part one other h = λ i. record (its_part page part) { held = h i }

pub with_kept : (page : ℕ) (part : Part) (one other : List Translation) → filter (is_at page) one ≡ other
    → its_part page (record part { kept = one }) ≡ record (its_part page part) { kept = other }
with_kept page part one other h = λ i. record (its_part page part) { kept = h i }

-- ---- end

end_by : (page : ℕ) (settings : Settings) (mappings : List Mapping) (part : Part) (place : ℕ) (translation : Translation) (b : Bool)
    → slice_get part.works place ≡ Some (Use translation) → (translation.page == page) ≡ b
    → IsLed page (Some (record part { works = remove part.works place }))
    (next_at page settings mappings part (if_so b (local.End (place_in (is_work_at page) part.works place))))
end_by page settings mappings part place translation true h is =
    subst (λ (o : Option Work). IsLed page (Some (record part { works = remove part.works place }))
    (device.end_use (its_part page part) (place_in (is_work_at page) part.works place) o))
    (sym (get_in (is_work_at page) part.works place (Use translation) h is))
    (with_works page part _ _ (remove_in (is_work_at page) part.works place (Use translation) h is))
end_by page settings mappings part place translation false h is =
    with_works page part _ _ (remove_gone (is_work_at page) part.works place (Use translation) h is)

pub end_use : (page : ℕ) (settings : Settings) (mappings : List Mapping) (part : Part) (place : ℕ) (o : Option Work) → slice_get part.works place ≡ o
    → IsLed page (device.end_use part place o)
    (next_at page settings mappings part (if_so (is_left_at (is_work_at page) o) (local.End (place_in (is_work_at page) part.works place))))
end_use page settings mappings part place None h = tt
end_use page settings mappings part place (Some (Taken itag scope)) h = tt
end_use page settings mappings part place (Some (Draining barrier)) h = tt
end_use page settings mappings part place (Some (Use translation)) h = end_by page settings mappings part place translation (translation.page == page) h refl

-- ---- finish

pub may : (lies one other : Bool) → (one ≡ false → other ≡ false) → lies || not one ≡ true → lies || not other ≡ true
may true one other h k = refl
may false false other h k = ap not (h refl)
may false true other h k = absurd (cc)

finished : (page : ℕ) (part : Part) (place itag : ℕ) (scope : Scope) → slice_get part.works place ≡ Some (Taken itag scope)
    → IsLed page (device.finish part place (Some (Taken itag scope)))
    (device.finish (its_part page part) (place_in (is_work_at page) part.works place) (Some (Taken itag scope)))
finished page part place itag scope h =
    let keep = is_work_at page in
    where_so page _ _ _ _
    (may part.lies _ _ (λ none. ap (list_any (device.is_use_of scope)) (take_in keep part.works place)
    ∙ fewer keep (device.is_use_of scope) (take place part.works) none))
    (sends page (record part { works = remove part.works place }) 0 part.time (message.Invalidated itag)
    ∙ ap (λ (works : List Work). sent (record (its_part page part) { works = works }) 0 part.time (message.Invalidated itag))
    (remove_in keep part.works place (Taken itag scope) h refl))

pub finish : (page : ℕ) (settings : Settings) (mappings : List Mapping) (part : Part) (place : ℕ) (o : Option Work) → slice_get part.works place ≡ o
    → IsLed page (device.finish part place o)
    (next_at page settings mappings part (if_so (is_left_at (is_work_at page) o) (local.Finish (place_in (is_work_at page) part.works place))))
finish page settings mappings part place None h = tt
finish page settings mappings part place (Some (Use translation)) h = tt
finish page settings mappings part place (Some (Draining barrier)) h = tt
finish page settings mappings part place (Some (Taken itag scope)) h =
    subst (λ (o : Option Work). IsLed page (device.finish part place (Some (Taken itag scope)))
    (device.finish (its_part page part) (place_in (is_work_at page) part.works place) o))
    (sym (get_in (is_work_at page) part.works place (Taken itag scope) h refl))
    (finished page part place itag scope h)

-- ---- use

-- what is of the page under a PASID is left
pub of_page : (page pasid other : ℕ) (translation : Translation) → (other == page) ≡ true → is_of pasid other translation ≡ true
    → is_at page translation ≡ true
of_page page pasid other translation h k = grind (arith, nat_tests)

pub of_other : (page pasid other : ℕ) (translation : Translation) → (other == page) ≡ false → is_of pasid other translation ≡ true
    → is_at page translation ≡ false
of_other page pasid other translation h k = grind (arith, nat_tests)

began : (page : ℕ) (part : Part) (o : Option Row) (held : Option Translation)
    → ((translation : Translation) → held ≡ Some translation → is_at page translation ≡ true)
    → IsLed page (device.begin_use part o held) (device.begin_use (its_part page part) o held)
began page part None held h = tt
began page part (Some row) None h = tt
began page part (Some row) (Some translation) h = where_so page _ _ _ _ (λ so. so)
    (with_works page part _ _ (filter_left (is_work_at page) part.works (Use translation) (h translation refl)))

began_elsewhere : (page : ℕ) (part : Part) (o : Option Row) (pasid other : ℕ) (held : Option Translation) → (other == page) ≡ false
    → find (is_of pasid other) part.held ≡ held → IsLed page (device.begin_use part o held) (Some (its_part page part))
began_elsewhere page part None pasid other held h k = tt
began_elsewhere page part (Some row) pasid other None h k = tt
began_elsewhere page part (Some row) pasid other (Some translation) h k = where_so page _ true _ _ (λ so. refl)
    (with_works page part _ _ (filter_without (is_work_at page) part.works (Use translation)
    (of_other page pasid other translation h (find_passes (is_of pasid other) part.held translation k))))

pub use_of : (page : ℕ) (settings : Settings) (mappings : List Mapping) (part : Part) (pasid other : ℕ) (b : Bool) → (other == page) ≡ b
    → IsLed page (device.use_of part pasid other) (next_at page settings mappings part (if_so b (local.Use pasid other)))
use_of page settings mappings part pasid other true h =
    subst (λ (o : Option Translation). IsLed page (device.use_of part pasid other) (device.begin_use (its_part page part) (slice_get part.rows pasid) o))
    (sym (find_in (is_at page) (is_of pasid other) (λ translation. of_page page pasid other translation h) part.held))
    (began page part (slice_get part.rows pasid) (find (is_of pasid other) part.held)
    (λ translation k. of_page page pasid other translation h (find_passes (is_of pasid other) part.held translation k)))
use_of page settings mappings part pasid other false h = began_elsewhere page part (slice_get part.rows pasid) pasid other _ h refl

-- ---- evict

evict_by : (page : ℕ) (settings : Settings) (mappings : List Mapping) (part : Part) (pasid other : ℕ) (b : Bool) (o : Option ℕ) → (other == page) ≡ b
    → position (is_of pasid other) part.held ≡ o
    → IsLed page (device.evict part o) (next_at page settings mappings part (if_so b (local.Evict pasid other)))
evict_by page settings mappings part pasid other true None h k = tt
evict_by page settings mappings part pasid other false None h k = tt
evict_by page settings mappings part pasid other true (Some place) h k =
    let found = position_get (is_of pasid other) part.held place k in
    let is = of_page page pasid other found.0 h found.2 in
    subst (λ (o : Option ℕ). IsLed page (device.evict part (Some place)) (device.evict (its_part page part) o))
    (sym (position_in (is_at page) (is_of pasid other) (λ translation. of_page page pasid other translation h) part.held
    ∙ ap (option_map (place_in (is_at page) part.held)) k))
    (with_held page part _ _ (remove_in (is_at page) part.held place found.0 found.1 is))
evict_by page settings mappings part pasid other false (Some place) h k =
    let found = position_get (is_of pasid other) part.held place k in
    with_held page part _ _ (remove_gone (is_at page) part.held place found.0 found.1 (of_other page pasid other found.0 h found.2))

pub evict : (page : ℕ) (settings : Settings) (mappings : List Mapping) (part : Part) (pasid other : ℕ)
    → IsLed page (device.evict part (position (is_of pasid other) part.held))
    (next_at page settings mappings part (if_so (other == page) (local.Evict pasid other)))
evict page settings mappings part pasid other = evict_by page settings mappings part pasid other (other == page) _ refl refl

-- ---- the unit

issue : (page : ℕ) (part : Part) (scope : Scope) (o : Option ℕ) → IsLed page (unit.issue part scope o) (unit.issue (its_part page part) scope o)
issue page part scope None = tt
issue page part scope (Some itag) = sends page (record (unit.shifted part) { issued = _ }) 0 part.time (message.Invalidate itag scope)

pump_head : (page : ℕ) (settings : Settings) (part : Part) (o : Option Descriptor)
    → IsLed page (unit.pump_head settings part o) (unit.pump_head settings (its_part page part) o)
pump_head page settings part None = tt
pump_head page settings part (Some (descriptor.Device endpoint scope)) = issue page part scope _
pump_head page settings part (Some (descriptor.Translations endpoint scope)) =
    with_kept page (unit.shifted part) _ _ (filter_both (is_at page) (is_left scope) part.kept)
pump_head page settings part (Some (descriptor.Entry endpoint pasid)) = refl
pump_head page settings part (Some (descriptor.Wait name drain fence)) =
    where_so page _ _ _ _ (λ h. h)
    (where_open page (unit.is_out_before part.issued (length part.issued)) _ _ _ _ (waits page (unit.shifted part) name drain) refl)
pump_head page settings part (Some (descriptor.Out itag)) = tt

if_open : (page : ℕ) (b : Bool) (one other : Option Part) → IsLed page one other → IsLed page (if b then one else None) (if b then other else None)
if_open page true one other h = h
if_open page false one other h = tt

pub pump : (page : ℕ) (settings : Settings) (part : Part) → IsLed page (unit.pump settings part) (unit.pump settings (its_part page part))
pump page settings part =
    if_open page (not settings.is_loose && unit.takes part) _ _ (pump_head page settings part (slice_get part.queue 0))

issue_at : (page : ℕ) (part : Part) (at : ℕ) (scope : Scope) (o : Option ℕ)
    → IsLed page (unit.issue_at part at scope o) (unit.issue_at (its_part page part) at scope o)
issue_at page part at scope None = tt
issue_at page part at scope (Some itag) =
    sends page (record part { queue = _; issued = _ }) 0 part.time (message.Invalidate itag scope)

pump_one : (page : ℕ) (settings : Settings) (part : Part) (at : ℕ) (one : Descriptor)
    → IsLed page (unit.pump_one settings part at one) (unit.pump_one settings (its_part page part) at one)
pump_one page settings part at (descriptor.Device endpoint scope) = issue_at page part at scope _
pump_one page settings part at (descriptor.Translations endpoint scope) =
    with_kept page (unit.taken_out part at) _ _ (filter_both (is_at page) (is_left scope) part.kept)
pump_one page settings part at (descriptor.Entry endpoint pasid) = refl
pump_one page settings part at (descriptor.Wait name drain fence) =
    where_so page _ _ _ _ (λ h. h) (waits page (unit.taken_out part at) name drain)
pump_one page settings part at (descriptor.Out itag) = tt

unless : (page : ℕ) (b : Bool) (one other : Option Part) → IsLed page one other → IsLed page (if b then None else one) (if b then None else other)
unless page true one other h = tt
unless page false one other h = h

pump_there : (page : ℕ) (settings : Settings) (part : Part) (at : ℕ) (o : Option Descriptor)
    → IsLed page (unit.pump_there settings part at o) (unit.pump_there settings (its_part page part) at o)
pump_there page settings part at None = tt
pump_there page settings part at (Some one) =
    unless page (unit.is_barred settings part.queue at one) _ _ (pump_one page settings part at one)

pub pump_at : (page : ℕ) (settings : Settings) (part : Part) (at : ℕ)
    → IsLed page (unit.pump_at settings part at) (unit.pump_at settings (its_part page part) at)
pump_at page settings part at =
    if_open page (settings.is_loose && unit.takes part) _ _ (pump_there page settings part at (slice_get part.queue at))

pub forget_entry : (page : ℕ) (part : Part) (place : ℕ) (o : Option KeptEntry)
    → IsLed page (unit.forget_entry part place o) (unit.forget_entry (its_part page part) place o)
forget_entry page part place None = tt
forget_entry page part place (Some kept) = refl

forget_by : (page : ℕ) (settings : Settings) (mappings : List Mapping) (part : Part) (place : ℕ) (translation : Translation) (b : Bool)
    → slice_get part.kept place ≡ Some translation → is_at page translation ≡ b
    → IsLed page (Some (record part { kept = remove part.kept place }))
    (next_at page settings mappings part (if_so b (local.Forget (place_in (is_at page) part.kept place))))
forget_by page settings mappings part place translation true h is =
    subst (λ (o : Option Translation). IsLed page (Some (record part { kept = remove part.kept place }))
    (unit.forget (its_part page part) (place_in (is_at page) part.kept place) o))
    (sym (get_in (is_at page) part.kept place translation h is))
    (with_kept page part _ _ (remove_in (is_at page) part.kept place translation h is))
forget_by page settings mappings part place translation false h is = with_kept page part _ _ (remove_gone (is_at page) part.kept place translation h is)

pub forget : (page : ℕ) (settings : Settings) (mappings : List Mapping) (part : Part) (place : ℕ) (o : Option Translation) → slice_get part.kept place ≡ o
    → IsLed page (unit.forget part place o)
    (next_at page settings mappings part (if_so (is_left_at (is_at page) o) (local.Forget (place_in (is_at page) part.kept place))))
forget page settings mappings part place None h = tt
forget page settings mappings part place (Some translation) h = forget_by page settings mappings part place translation (is_at page translation) h refl

-- ---- ask

pub ask : (page : ℕ) (part : Part) (pasid other : ℕ) (o : Option Row)
    → IsLed page (device.ask part pasid other o) (device.ask (its_part page part) pasid other o)
ask page part pasid other None = tt
ask page part pasid other (Some row) =
    where_so page _ _ _ _ (λ h. h) (sends page (record part { requests = _ }) row.user part.time (message.Request _ pasid other))
