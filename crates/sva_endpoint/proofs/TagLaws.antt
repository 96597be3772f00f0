-- The tag of a request stays taken, and a doomed request stays doomed.
use Rattle.std.proofs.Common.{◌≡◌, ◌≢◌, ℕ, List, Bool, true, false, cond, subst, refl, ap, sym, ◌∙◌, get_or-set_other}
use Rattle.std.specs.List.{list_any}
use Rattle.std.proofs.Math.ListN.{get_or-map}
use Rattle.std.proofs.lemmas.Bool.{eqb-false}
use Rattle.sva_step.specs.declared.answers.Answer.TheVariants.{Dropped}
use Rattle.sva_msg.specs.declared.messages.Scope.{Scope}
use Rattle.sva_msg.specs.declared.messages.Kind.{Kind}
use Rattle.sva_msg.specs.declared.messages.Kind.TheVariants.{Reset, Completion, Invalidate}
use Rattle.sva_endpoint.specs.declared.coverage.Invalidation.{Invalidation}
use Rattle.sva_endpoint.specs.declared.request_tags.RequestTag.{RequestTag}
use Rattle.sva_endpoint.specs.declared.request_tags.RequestTag.TheVariants.{Free, Out, Doomed}
use Rattle.sva_msg.specs.declared.extents.Extent.{Extent}
use Rattle.sva_endpoint.specs.Coverage.{covers}
use Rattle.sva_msg.specs.Extents.{extent_of}
use Rattle.sva_endpoint.specs.RequestTags.{request_at, is_free, doomed_by}
use Rattle.sva_endpoint.specs.Tables.{Tables}
use Rattle.sva_endpoint.specs.Steps.{lowest_tag, refusals_of_ask}
use Rattle.sva_endpoint.specs.Deliveries.{after_receive, after_invalidate, answer_to, answer_to_completion, cache_after}
use Rattle.sva_endpoint.specs.Calls.{Call, Ask, Receive, is_permitted, after, run, ArePermitted}
use Rattle.sva_endpoint.specs.Laws.{ends_request, is_end_of_request, asks_for, TagsStayTaken, DoomedNeverHeld}
use Rattle.sva_endpoint.proofs.CallFacts.{are_clear, lowest, lasts}

pub clash : {A : Type 0} (b : Bool) → b ≡ true → b ≡ false → A
clash true holds fails = absurd (cc)
clash false holds fails = absurd (cc)

-- a fact of a tag that is taken, which lasts when the request is doomed, lasts until the request ends
module _ (tag : ℕ) (Q : RequestTag → Type 0) (taken : (place : RequestTag) → Q place → is_free place ≡ false)
    (stays : (invalidation : Invalidation) (place : RequestTag) → Q place → Q (doomed_by invalidation place)) where
  received : (s : Tables) (kind : Kind) → ends_request tag kind ≡ false → Q (request_at s.tags tag) → Q (request_at (after_receive s kind).tags tag)
  received s Reset goes q = absurd (cc)
  received s (Completion other frame read write) goes q =
      let apart : tag ≢ other = λ same. eqb-false other tag goes (sym same) in
      subst Q (sym (get_or-set_other s.tags other tag Free Free apart)) q
  received s (Invalidate itag pasid scope) goes q =
      let invalidation : Invalidation = record { pasid = pasid; extent = extent_of scope } in
      subst Q (sym (get_or-map (doomed_by invalidation) s.tags tag Free)) (stays invalidation (request_at s.tags tag) q)
  received s _ goes q = q

  stepped : (s : Tables) (call : Call) → is_permitted s call ≡ true → is_end_of_request tag call ≡ false → Q (request_at s.tags tag)
      → Q (request_at (after s call).tags tag)
  stepped s (Ask pasid page) may goes q =
      let clear = are_clear (refusals_of_ask s pasid page) _ may in
      let free = lowest is_free s.tags Free clear.1.1.0 in
      let apart : tag ≢ lowest_tag s =
      λ same. clash (is_free (request_at s.tags tag)) (ap (λ k. is_free (request_at s.tags k)) same ∙ free.1) (taken (request_at s.tags tag) q) in
      subst Q (sym (get_or-set_other s.tags (lowest_tag s) tag (Out pasid page) Free apart)) q
  stepped s (Receive kind) may goes q = received s kind goes q
  stepped s _ may goes q = q

  pub tag_lasts : (s : Tables) (calls : List Call) → ArePermitted s calls → list_any (is_end_of_request tag) calls ≡ false
      → Q (request_at s.tags tag) → Q (request_at (run s calls).tags tag)
  tag_lasts = lasts (λ s. Q (request_at s.tags tag)) (is_end_of_request tag) stepped

asks_for-taken : (pasid page : ℕ) (place : RequestTag) → asks_for pasid page place ≡ true → is_free place ≡ false
asks_for-taken pasid page Free asks = absurd (cc)
asks_for-taken pasid page (Out asker asked) asks = refl
asks_for-taken pasid page (Doomed asker asked) asks = refl

asks_for-cond : (b : Bool) (pasid page asker asked : ℕ) → asks_for pasid page (Out asker asked) ≡ true
    → asks_for pasid page (cond b (Doomed asker asked) (Out asker asked)) ≡ true
asks_for-cond true pasid page asker asked asks = asks
asks_for-cond false pasid page asker asked asks = asks

asks_for-doomed_by : (pasid page : ℕ) (invalidation : Invalidation) (place : RequestTag) → asks_for pasid page place ≡ true
    → asks_for pasid page (doomed_by invalidation place) ≡ true
asks_for-doomed_by pasid page invalidation Free asks = asks
asks_for-doomed_by pasid page invalidation (Out asker asked) asks = asks_for-cond (covers invalidation asker asked) pasid page asker asked asks
asks_for-doomed_by pasid page invalidation (Doomed asker asked) asks = asks

pub tags_stay_taken : TagsStayTaken
tags_stay_taken s tag pasid page calls permitted none asks =
    tag_lasts tag (λ place. asks_for pasid page place ≡ true) (asks_for-taken pasid page) (asks_for-doomed_by pasid page) s calls permitted none asks

doomed-taken : (pasid page : ℕ) (place : RequestTag) → place ≡ Doomed pasid page → is_free place ≡ false
doomed-taken pasid page place is = ap is_free is

doomed-stays : (pasid page : ℕ) (invalidation : Invalidation) (place : RequestTag) → place ≡ Doomed pasid page → doomed_by invalidation place
    ≡ Doomed pasid page
doomed-stays pasid page invalidation place is = ap (doomed_by invalidation) is

-- what an Invalidate Request leaves, by the pages that it names
pub told_is : (s : Tables) (itag : ℕ) (scope : Scope) (invalidation : Invalidation) → extent_of scope ≡ invalidation.extent
    → after s (Receive (Invalidate itag invalidation.pasid scope)) ≡ after_invalidate s itag invalidation
told_is s itag scope invalidation names =
    ap (λ (e : Extent). after_invalidate s itag (record { pasid = invalidation.pasid; extent = e })) names

abbrev IsThrownAway : Tables → (tag frame : ℕ) (read write : Bool) → Type 0
IsThrownAway late tag frame read write =
    (answer_to late (Completion tag frame read write) ≡ Dropped) × ((after late (Receive (Completion tag frame read write))).cache ≡ late.cache)

doomed_after : (s : Tables) (itag tag pasid page : ℕ) (invalidation : Invalidation) (calls : List Call) (frame : ℕ) (read write : Bool)
    → request_at s.tags tag ≡ Out pasid page → covers invalidation pasid page ≡ true
    → ArePermitted (after_invalidate s itag invalidation) calls → list_any (is_end_of_request tag) calls ≡ false
    → IsThrownAway (run (after_invalidate s itag invalidation) calls) tag frame read write
doomed_after s itag tag pasid page invalidation calls frame read write out covered permitted none =
    let told = after_invalidate s itag invalidation in
    let start : request_at told.tags tag ≡ Doomed pasid page =
    get_or-map (doomed_by invalidation) s.tags tag Free ∙ ap (doomed_by invalidation) out ∙ ap (λ b. cond b (Doomed pasid page) (Out pasid page)) covered in
    let end = tag_lasts tag (λ place. place ≡ Doomed pasid page) (doomed-taken pasid page) (doomed-stays pasid page) told calls permitted none start in
    let late = run told calls in
    (ap (answer_to_completion late.cache read) end, ap (cache_after late.cache frame read write) end)

pub doomed_never_held : DoomedNeverHeld
doomed_never_held s itag tag pasid page scope invalidation calls frame read write names out covered permitted none =
    let told = told_is s itag scope invalidation names in
    subst (λ t. IsThrownAway (run t calls) tag frame read write) (sym told)
    (doomed_after s itag tag pasid page invalidation calls frame read write out covered (subst (λ t. ArePermitted t calls) told permitted) none)
