-- Messages from the host, seen.
use Rattle.std.proofs.Common.{◌≡◌, refl, ap, sym, ◌∙◌, ℕ, zero, suc, Bool, true, false, arith}
use Rattle.std.specs.Prelude.{◌&&◌, ◌||◌, not, if◌then◌else◌, Some, None, option_map, List, [], ◌∷◌, map, drop, length, replicate, slice_set}
use Rattle.std.specs.FinMap.{insert, entries, empty, from_sorted, empty_of_len, len-entries, entries-from_sorted}
use Rattle.std.proofs.lemmas.List.{map-set, set-get_or}
use Rattle.sva_labels.proofs.Tests.{turned}
use Rattle.sva_step.specs.declared.answers.Answer.TheVariants as answer
use Rattle.sva_model.specs.State.{PasidState as DeviceState}
use Rattle.sva_model.specs.States.{Extent as DeviceExtent}
use Rattle.sva_model.specs.States as states
use Rattle.sva_labels.specs.Finding as finding
use Rattle.sva_labels.specs.Moves as moves
use Rattle.sva_labels.specs.Outcomes.{is_full, response_said}
use Rattle.sva_msg.specs.declared.messages.Code.{Code}
use Rattle.sva_msg.specs.declared.extents.Extent.{Extent}
use Rattle.sva_msg.specs.declared.extents.Extent.TheVariants.{Pages, All}
use Rattle.sva_endpoint.specs.declared.coverage.Invalidation.{Invalidation}
use Rattle.sva_endpoint.specs.Coverage.{covers, is_within}
use Rattle.sva_endpoint.specs.declared.cached.Translation.{Translation}
use Rattle.sva_endpoint.specs.Cache.{Key, Translations, key_cmp, has_room_for}
use Rattle.sva_endpoint.specs.declared.pasid_states.PasidState.TheVariants.{Off, On, Stopping}
use Rattle.sva_endpoint.specs.declared.request_tags.RequestTag.{RequestTag}
use Rattle.sva_endpoint.specs.declared.request_tags.RequestTag.TheVariants.{Free, Out, Doomed}
use Rattle.sva_endpoint.specs.declared.use_slots.UseSlot.{UseSlot}
use Rattle.sva_endpoint.specs.declared.use_slots.UseSlot.TheVariants as slots
use Rattle.sva_endpoint.specs.declared.groups.GroupPlace.{GroupPlace}
use Rattle.sva_endpoint.specs.declared.groups.GroupPlace.TheVariants as groups
use Rattle.sva_endpoint.specs.PasidStates.{with_state}
use Rattle.sva_endpoint.specs.RequestTags.{request_at, doomed_by}
use Rattle.sva_endpoint.specs.UseSlots.{runs_covered, cut_off}
use Rattle.sva_endpoint.specs.Groups.{group_at}
use Rattle.sva_endpoint.specs.Tables.{Tables, fresh}
use Rattle.sva_endpoint.specs.Deliveries.{answer_to_completion, cache_after, after_invalidate, answer_to_response, is_failure}
use Rattle.sva_endpoint.specs.Laws.{IsSound}
use Rattle.sva_parts_by_labels.specs.Device.{pasid_seen, tag_seen, translation_seen, slot_seen, taken_seen, group_seen, device_seen}
use Rattle.sva_msg.specs.Seen.{extent_seen}
use Rattle.sva_parts_by_labels.specs.DeviceLaws.{CompletionIsSeen, ResponseIsSeen, completed, kept_of, completion_said}
use Rattle.sva_parts_by_labels.proofs.Tables.{seen_at, seen_each}
use Rattle.sva_parts_by_labels.proofs.Pasids.{with_state_seen}
use Rattle.sva_parts_by_labels.proofs.Cached.{inserted_is_seen, retained_is_seen, room_is_seen}

pub start_is_seen : (s : Tables) (t : ℕ) → IsSound s
    → device_seen (record s { pasids = with_state s.pasids t On }) ≡ moves.with_pasid t DeviceState.On (device_seen s)
start_is_seen s t h = with_state_seen s t On

pub stop_is_seen : (s : Tables) (t : ℕ) → IsSound s
    → device_seen (record s { pasids = with_state s.pasids t Stopping }) ≡ moves.with_pasid t DeviceState.Ending (device_seen s)
stop_is_seen s t h = with_state_seen s t Stopping

-- A reset.

-- each place of a table is as a new one is
all_new : {A B C : Type 0} (see : A → B) (x : A) (n : ℕ) (xs : List C) → length xs ≡ n → map see (replicate n x) ≡ map (λ c. see x) xs
all_new see x zero [] h = refl
all_new see x (suc n) [] h = absurd (omega (arith, h))
all_new see x zero (c ∷ xs) h = absurd (omega (arith, h))
all_new see x (suc n) (c ∷ xs) h = ap (λ l. see x ∷ l) (all_new see x n xs (omega (arith, h)))

killed_seen : (slot : UseSlot) → slot_seen (cut_off slot) ≡ moves.killed (slot_seen slot)
killed_seen slots.Free = refl
killed_seen (slots.Running u) = refl
killed_seen slots.Dead = refl

twice : {A B C : Type 0} (f : A → B) (c : C) (xs : List A) → map (λ b. c) (map f xs) ≡ map (λ a. c) xs
twice f c [] = refl
twice f c (x ∷ xs) = ap (λ l. c ∷ l) (twice f c xs)

below : {A : Type 0} (xs : List A) (n : ℕ) → length xs ≡ suc n → length (drop 1 xs) ≡ n
below [] n h = absurd (omega (arith, h))
below (x ∷ xs) n h = omega (arith, h)

abbrev no_entries : Translations
no_entries = from_sorted {K = Key} {X = Translation} {R = key_cmp} []

entries_none : entries no_entries ≡ []
entries_none = entries-from_sorted key_cmp [] tt

entries_empty : entries {K = Key} {X = Translation} {R = key_cmp} empty ≡ []
entries_empty = ap entries (sym (empty_of_len no_entries (len-entries no_entries ∙ ap length entries_none))) ∙ entries_none

pub reset_is_seen : (s : Tables) → IsSound s → device_seen (record fresh { uses = map cut_off s.uses }) ≡ moves.cleared (device_seen s)
reset_is_seen s h =
    λ i.
    record {
      pasids = (all_new pasid_seen Off 32 (drop 1 s.pasids) (below s.pasids 32 h.pasids) ∙ sym (twice pasid_seen DeviceState.Off (drop 1 s.pasids))) i;
      tags = (all_new tag_seen Free 32 s.tags h.tags ∙ sym (twice tag_seen None s.tags)) i;
      cache = ap (map translation_seen) entries_empty i;
      slots = seen_each slot_seen cut_off moves.killed killed_seen s.uses i;
      taken = (all_new (option_map taken_seen) None 32 s.taken h.taken ∙ sym (twice (option_map taken_seen) None s.taken)) i;
      groups = (all_new group_seen groups.Free 32 s.groups h.groups ∙ sym (twice group_seen None s.groups)) i;
      is_disabled = false;
    }

-- A translation completion, by what its tag bears.

full_by : (full : Bool) (room : Bool) → room ≡ not full → (if room then answer.Held else answer.Full) ≡ (if full then answer.Full else answer.Held)
full_by true true k = absurd (cc (k))
full_by true false k = refl
full_by false true k = refl
full_by false false k = absurd (cc (k))

said_at : (s : Tables) (read : Bool) (p : RequestTag) → IsSound s → answer_to_completion s.cache read p ≡ completion_said (device_seen s) read (tag_seen p)
said_at s read Free h = refl
said_at s false (Out t q) h = refl
said_at s true (Out t q) h = full_by (is_full (device_seen s).cache t q) (has_room_for s.cache (t, q)) (room_is_seen s.cache t q h.cached)
said_at s false (Doomed t q) h = refl
said_at s true (Doomed t q) h = refl

forgotten : (s : Tables) (tag : ℕ) → device_seen (record s { tags = slice_set s.tags tag Free }) ≡ moves.without_tag tag (device_seen s)
forgotten s tag = λ i. record (device_seen s) { tags = map-set tag_seen s.tags tag Free i }

kept_by : (s : Tables) (tag f t q : ℕ) (x full room : Bool) → room ≡ not full
    → device_seen (record s { cache = if room then insert s.cache (t, q) (record { frame = f; write = x }) else s.cache; tags = slice_set s.tags tag Free })
    ≡ kept_of (device_seen s) tag f x full (record { pasid = t; page = q; is_doomed = false })
kept_by s tag f t q x true true k = absurd (cc (k))
kept_by s tag f t q x true false k = forgotten s tag
kept_by s tag f t q x false true k =
    λ i.
    record (device_seen s) {
      tags = map-set tag_seen s.tags tag Free i;
      cache = inserted_is_seen s.cache t q (record { frame = f; write = x }) i;
    }
kept_by s tag f t q x false false k = absurd (cc (k))

after_at : (s : Tables) (tag f : ℕ) (read x : Bool) (p : RequestTag) → request_at s.tags tag ≡ p → IsSound s
    → device_seen (record s { cache = cache_after s.cache f read x p; tags = slice_set s.tags tag Free })
    ≡ completed (device_seen s) tag f read x (tag_seen p)
after_at s tag f read x Free k h =
    ap (λ r. device_seen (record s { tags = slice_set s.tags tag r })) (sym k)
    ∙ ap (λ tags. device_seen (record s { tags = tags })) (set-get_or s.tags tag Free)
after_at s tag f false x (Out t q) k h = forgotten s tag
after_at s tag f true x (Out t q) k h =
    kept_by s tag f t q x (is_full (device_seen s).cache t q) (has_room_for s.cache (t, q)) (room_is_seen s.cache t q h.cached)
after_at s tag f false x (Doomed t q) k h = forgotten s tag
after_at s tag f true x (Doomed t q) k h = forgotten s tag

pub completion_is_seen : (s : Tables) (tag f : ℕ) (read x : Bool) → IsSound s → CompletionIsSeen s tag f read x
completion_is_seen s tag f read x h =
    let at : finding.tag_at (device_seen s) tag ≡ tag_seen (request_at s.tags tag) = seen_at tag_seen s.tags tag Free in
    record {
      said = said_at s read (request_at s.tags tag) h ∙ ap (completion_said (device_seen s) read) (sym at);
      after = after_at s tag f read x (request_at s.tags tag) refl h ∙ ap (completed (device_seen s) tag f read x) (sym at);
    }

-- An invalidation.

within_seen : (extent : Extent) (q : ℕ) → is_within extent q ≡ states.is_within (extent_seen extent) q
within_seen (Pages range) q = refl
within_seen All q = refl

covers_seen : (n : Invalidation) (t q : ℕ) → covers n t q ≡ finding.covers n.pasid (extent_seen n.extent) t q
covers_seen n t q = λ i. turned n.pasid t i && within_seen n.extent q i

noted_seen : (n : Invalidation) (slot : UseSlot) → runs_covered n slot ≡ moves.is_noted n.pasid (extent_seen n.extent) (slot_seen slot)
noted_seen n slots.Free = refl
noted_seen n (slots.Running u) = covers_seen n u.pasid u.page
noted_seen n slots.Dead = refl

noted_each : (n : Invalidation) (uses : List UseSlot) → map (runs_covered n) uses ≡ map (moves.is_noted n.pasid (extent_seen n.extent)) (map slot_seen uses)
noted_each n [] = refl
noted_each n (u ∷ uses) = λ i. noted_seen n u i ∷ noted_each n uses i

doomed_by_test : (b : Bool) (t q : ℕ) → tag_seen (if b then Doomed t q else Out t q) ≡ Some (record { pasid = t; page = q; is_doomed = false || b })
doomed_by_test true t q = refl
doomed_by_test false t q = refl

doomed_seen : (n : Invalidation) (tag : RequestTag) → tag_seen (doomed_by n tag) ≡ moves.doomed n.pasid (extent_seen n.extent) (tag_seen tag)
doomed_seen n Free = refl
doomed_seen n (Out t q) = doomed_by_test (covers n t q) t q ∙ ap (λ b. Some (record { pasid = t; page = q; is_doomed = b })) (covers_seen n t q)
doomed_seen n (Doomed t q) = refl

pub invalidation_is_seen : (s : Tables) (itag : ℕ) (n : Invalidation) → IsSound s
    → device_seen (after_invalidate s itag n) ≡ moves.taking itag n.pasid (extent_seen n.extent) (device_seen s)
invalidation_is_seen s itag n h =
    let noted : map (runs_covered n) s.uses ≡ map (moves.is_noted n.pasid (extent_seen n.extent)) (device_seen s).slots = noted_each n s.uses in
    let taken =
    map-set (option_map taken_seen) s.taken itag (Some (record { invalidation = n; noted = map (runs_covered n) s.uses }))
    ∙ ap (λ slots. slice_set (device_seen s).taken itag (Some (record { pasid = n.pasid; extent = extent_seen n.extent; slots = slots }))) noted in
    let cache =
    retained_is_seen s.cache (λ key. not (covers n key.0 key.1)) (λ x. not (finding.covers n.pasid (extent_seen n.extent) x.pasid x.page))
    (λ e. ap (λ (b : Bool). not b) (sym (covers_seen n e.0.0 e.0.1))) in
    λ i.
    record (device_seen s) {
      taken = taken i;
      cache = cache i;
      tags = seen_each tag_seen (doomed_by n) (moves.doomed n.pasid (extent_seen n.extent)) (doomed_seen n) s.tags i;
    }

-- A response.

answer_seen : (group : GroupPlace) → answer_to_response group ≡ response_said (group_seen group)
answer_seen groups.Free = refl
answer_seen (groups.Collecting t n) = refl
answer_seen (groups.Out t n) = refl
answer_seen (groups.Stale t n) = refl

disabled_by : (enabled fails : Bool) → not (enabled && not fails) ≡ (not enabled || fails)
disabled_by true true = refl
disabled_by true false = refl
disabled_by false fails = refl

pub response_is_seen : (s : Tables) (t i : ℕ) (code : Code) → IsSound s → ResponseIsSeen s t i code
response_is_seen s t i code h =
    record {
      said = answer_seen (group_at s.groups i) ∙ ap response_said (sym (seen_at group_seen s.groups i groups.Free));
      after =
          λ k.
          record (device_seen s) {
            groups = map-set group_seen s.groups i groups.Free k;
            is_disabled = disabled_by s.enabled (is_failure code) k;
          };
    }
