-- The deliveries of a translation request and of its completion by labels are those by names.
use Rattle.std.proofs.Common.{◌≡◌, ◌≢◌, refl, ap, ap₂, sym, ◌∙◌, ℕ, ◌+◌, ◌<◌, Bool, true, false, arith}
use Rattle.std.specs.Prelude.{Option, Some, None, option_map, ◌&&◌, not, ◌==◌, nat_le, if◌then◌else◌, List, [], ◌∷◌, map}
use Rattle.std.specs.List.{count_by}
use Rattle.std.proofs.lemmas.Bool.Decides.{nat_tests}
use Rattle.std.proofs.lemmas.List.Sums.{sum_by-append}
use Rattle.sva_step.specs.declared.answers.Answer.TheVariants as answer
use Rattle.sva_model.specs.Words.{select, is_some, the}
use Rattle.sva_model.specs.Message.{Message}
use Rattle.sva_model.specs.Message.Message.{CompletionMessage}
use Rattle.sva_model.specs.State.{Endpoint, World, Stage, RequestState, Phase}
use Rattle.sva_model.specs.State.Stage.{Unbound, Live, Stopping, Draining, Invalidating, Quiet, Lost, Released}
use Rattle.sva_model.specs.State.RequestState.{Out, Doomed, Over}
use Rattle.sva_model.specs.State.Phase.{Open, ResetSent, Cleared}
use Rattle.sva_model.specs.State.Subject.{RequestOf, CompletionOf}
use Rattle.sva_model.specs.States.{is_open, is_unreleased, is_live_stage, is_out}
use Rattle.sva_model.specs.StateChanges.{is_replaced}
use Rattle.sva_model.specs.Outcomes as names
use Rattle.sva_model.specs.Wire.{DeviceWire, number, insert_by, sorted_by, is_before, is_doomed, stage_wire, page_wire, request_wire, cached_wire}
use Rattle.sva_model.specs.Wire.{device_wire, wire}
use Rattle.sva_labels.proofs.Words.{some_the}
use Rattle.sva_labels.proofs.Counting.{count_same}
use Rattle.sva_laws.proofs.Invariant.{Invariant}
use Rattle.sva_laws.proofs.Found.{found}
use Rattle.sva_laws.proofs.Resets.{open_is}
use Rattle.sva_laws.proofs.Orders.{active_unreleased}
use Rattle.sva_labels.proofs.Tests.{none_before}
use Rattle.sva_labels.specs.Finding.{is_live, bearer, pages_in, page_at, device_of, tag_at}
use Rattle.sva_labels.specs.Moves.{Move}
use Rattle.sva_labels.specs.Outcomes.{by_one, found_for, completion_of, request_result, completion_result, completion_by, keep_result, is_other, is_full}
use Rattle.sva_refinement.proofs.LookedLists.{count_seen}
use Rattle.sva_refinement.proofs.LookedSpaces.{pages_of_name, page_found}
use Rattle.sva_refinement.proofs.EndpointViews.{device_seen}
use Rattle.sva_refinement.proofs.EndpointLookups.{tag_seen}
use Rattle.sva_refinement.proofs.Bearers.{bearer_seen}
use Rattle.sva_refinement.proofs.Reached.{IsReached}
use Rattle.sva_refinement.proofs.Alike.{result_by}
use Rattle.sva_refinement.proofs.DeliverResults.{ArrivesAlike, by_message, open_seen}

-- A request.

live_seen : (first : ℕ) (p : Endpoint) (s : Stage) → is_live (stage_wire first p s) ≡ is_live_stage s
live_seen first p Unbound = refl
live_seen first p Live = refl
live_seen first p (Stopping m) = refl
live_seen first p (Draining k) = refl
live_seen first p (Invalidating k x) = refl
live_seen first p Quiet = refl
live_seen first p Lost = refl
live_seen first p Released = refl

-- what is found for the request is said as its mapping says it
pub found_seen :
    (w : World) (e r : ℕ) → Invariant w → is_unreleased ((w.part e).stage ((w.part e).request_binding r)) ≡ true
    → completion_of ((w.part e).request_tag r)
    (found_for (wire w) ((w.part e).request_page r) (bearer (wire w) e ((w.part e).pasid ((w.part e).request_binding r))))
    ≡ names.completion_message w ((w.part e).request_tag r) (names.found_for w (w.part e) r)
found_seen w e r i u =
    ap (λ o. completion_of (p.request_tag r) (found_for (wire w) (p.request_page r) o)) (bearer_seen w e b i u)
    ∙ ap₂ (λ t o. completion_of (p.request_tag r) (if t then o else None)) (live_seen w.config.first p (p.stage b)) there
    ∙ go (is_live_stage (p.stage b))
  where
    p : Endpoint
    p = w.part e

    b : ℕ
    b = p.request_binding r

    there :
        page_at (pages_in (wire w) (number w.config.first (p.space b))) (p.request_page r)
        ≡ option_map (page_wire w.mappings) (w.mappings.at (p.space b) (p.request_page r))
    there =
        ap (λ pages. page_at pages (p.request_page r)) (pages_of_name w (p.space b) i.mapped (i.mapped.bound_live e b u))
        ∙ page_found w (p.space b) (p.request_page r) i.mapped

    said : (o : Option ℕ) → completion_of (p.request_tag r) (option_map (page_wire w.mappings) o) ≡ names.completion_message w (p.request_tag r) o
    said None = refl
    said (Some m) = refl

    go :
        (t : Bool)
        → completion_of (p.request_tag r) (if t then option_map (page_wire w.mappings) (w.mappings.at (p.space b) (p.request_page r)) else None)
        ≡ names.completion_message w (p.request_tag r) (if t then w.mappings.at (p.space b) (p.request_page r) else None)
    go true = said (w.mappings.at (p.space b) (p.request_page r))
    go false = refl

pub request_arrives :
    (w : World) (e c r : ℕ) → IsReached w → e < w.config.endpoints → (w.part e).message c ≡ Some (RequestOf r)
    → ArrivesAlike w e c (RequestOf r)
request_arrives w e c r re l m =
    ap (by_message w e c) ((re.carried e).request c r m)
    ∙ ap (request_result (wire w) e (number w.config.first c) (p.request_tag r) (p.pasid (p.request_binding r)) (p.request_page r)) (open_seen w e l)
    ∙ go (is_open p.phase) refl
  where
    p : Endpoint
    p = w.part e

    go :
        (b : Bool) → is_open p.phase ≡ b
        → request_result (wire w) e (number w.config.first c) (p.request_tag r) (p.pasid (p.request_binding r)) (p.request_page r) b
        ≡ result_by w (names.request_outcome w p e c r b)
    go true o =
        ap (λ x. by_one answer.Completion (Move.Complete e (number w.config.first c) x))
        (found_seen w e r re.invariant ((found w e re.invariant).request c r (open_is p o) m).0.unreleased)
    go false o = refl

-- A completion.

count_insert : {A : Type 0} (below : A → A → Bool) (test : A → Bool) (a : A) (xs : List A) → count_by test (insert_by below a xs) ≡ count_by test (a ∷ xs)
count_insert below test a [] = refl
count_insert {A = A} below test a (x ∷ xs) = go (below x a) (count_insert below test a xs)
  where
    more : (y : A) (ys : List A) → count_by test (y ∷ ys) ≡ (if test y then 1 else 0) + count_by test ys
    more y ys = sum_by-append (λ x. if test x then 1 else 0) (y ∷ []) ys ∙ ap (λ n. n + count_by test ys) (none_before (if test y then 1 else 0))

    swap : (y z n : ℕ) → y + (z + n) ≡ z + (y + n)
    swap y z n = omega arith

    go :
        (b : Bool) → count_by test (insert_by below a xs) ≡ count_by test (a ∷ xs)
        → count_by test (if b then x ∷ insert_by below a xs else a ∷ x ∷ xs) ≡ count_by test (a ∷ x ∷ xs)
    go true rest =
        more x (insert_by below a xs)
        ∙ ap (λ n. (if test x then 1 else 0) + n) (rest ∙ more a xs)
        ∙ swap (if test x then 1 else 0) (if test a then 1 else 0) (count_by test xs)
        ∙ sym (more a (x ∷ xs) ∙ ap (λ n. (if test a then 1 else 0) + n) (more x xs))
    go false rest = refl

pub count_sorted : {A : Type 0} (below : A → A → Bool) (test : A → Bool) (xs : List A) → count_by test (sorted_by below xs) ≡ count_by test xs
count_sorted below test [] = refl
count_sorted {A = A} below test (x ∷ xs) =
    count_insert below test x (sorted_by below xs)
    ∙ more (sorted_by below xs)
    ∙ ap (λ n. (if test x then 1 else 0) + n) (count_sorted below test xs)
    ∙ sym (more xs)
  where
    more : (ys : List A) → count_by test (x ∷ ys) ≡ (if test x then 1 else 0) + count_by test ys
    more ys = sum_by-append (λ x. if test x then 1 else 0) (x ∷ []) ys ∙ ap (λ n. n + count_by test ys) (none_before (if test x then 1 else 0))

-- the cache is full by labels exactly where it is by names
pub full_seen :
    (w : World) (e r : ℕ) → Invariant w → is_unreleased ((w.part e).stage ((w.part e).request_binding r)) ≡ true
    → is_full (device_wire w.mappings (w.part e)).cache ((w.part e).pasid ((w.part e).request_binding r)) ((w.part e).request_page r)
    ≡ names.is_full (w.part e) r
full_seen w e r i u =
    ap (nat_le 64)
    (count_sorted is_before (is_other (p.pasid b) (p.request_page r)) (map (cached_wire w.mappings p) (select p.requests (λ x. is_some (p.held x))))
    ∙ count_seen (cached_wire w.mappings p) (is_other (p.pasid b) (p.request_page r)) p.requests (λ x. is_some (p.held x))
    ∙ count_same p.requests (λ x. is_some (p.held x) && is_other (p.pasid b) (p.request_page r) (cached_wire w.mappings p x))
    (λ x. is_some (p.held x) && not (is_replaced p r x)) (λ x l. go x (is_some (p.held x)) refl))
  where
    p : Endpoint
    p = w.part e

    b : ℕ
    b = p.request_binding r

    same : (x y z v : ℕ) (t : Bool) → (x ≡ y → z ≡ v) → (z ≡ v → x ≡ y) → not (x == y && t) ≡ not (z == v && t)
    same x y z v t h k = grind (arith, nat_tests)

    one : (x : ℕ) → is_unreleased (p.stage x) ≡ true → p.pasid x ≡ p.pasid b → x ≡ b
    one x v h =
        let first : p.at_pasid (p.pasid x) ≡ Some x = (i.parts e).labels.bears_pasid x v in
        let second : p.at_pasid (p.pasid b) ≡ Some b = (i.parts e).labels.bears_pasid b u in
        let row : p.at_pasid (p.pasid x) ≡ p.at_pasid (p.pasid b) = ap p.at_pasid h in
        cc

    go :
        (x : ℕ) (t : Bool) → is_some (p.held x) ≡ t
        → (t && is_other (p.pasid b) (p.request_page r) (cached_wire w.mappings p x)) ≡ (t && not (is_replaced p r x))
    go x false h = refl
    go x true h =
        let v : is_unreleased (p.stage (p.request_binding x)) ≡ true =
        active_unreleased (p.stage (p.request_binding x)) ((i.parts e).owners.held x (the (p.held x)) (some_the (p.held x) h)) in
        same (p.pasid (p.request_binding x)) (p.pasid b) (p.request_binding x) b (p.request_page x == p.request_page r) (one (p.request_binding x) v)
        (ap p.pasid)

-- what a completion finds by its tag
tag_found :
    (w : World) (e r : ℕ) → Invariant w → e < w.config.endpoints → (w.part e).at_tag ((w.part e).request_tag r) ≡ Some r
    → tag_at (device_of (wire w) e) ((w.part e).request_tag r) ≡ Some (request_wire (w.part e) r)
tag_found w e r i l h =
    ap (λ d. tag_at d ((w.part e).request_tag r)) (device_seen w e l)
    ∙ tag_seen w.mappings (w.part e) (i.parts e).labels ((w.part e).request_tag r)
    ∙ ap (option_map (request_wire (w.part e))) h

-- an endpoint that has reset itself has no request out, and so no tag is borne
tag_missing : (w : World) (e c t : ℕ) → Invariant w → e < w.config.endpoints → (w.part e).phase ≡ Cleared c → tag_at (device_of (wire w) e) t ≡ None
tag_missing w e c t i l ph =
    ap (λ d. tag_at d t) (device_seen w e l)
    ∙ tag_seen w.mappings (w.part e) (i.parts e).labels t
    ∙ ap (option_map (request_wire (w.part e))) (none ((w.part e).at_tag t) refl)
  where
    none : (o : Option ℕ) → (w.part e).at_tag t ≡ o → o ≡ None
    none None h = refl
    none (Some r) h = absurd (cc (sym ((i.parts e).labels.tag_bears t r h).1 ∙ (i.parts e).resets.over c r ph))

-- what is answered where the request is out
kept_arrives :
    (w : World) (e c r m : ℕ) (t : Bool)
    → keep_result e (number w.config.first c) ((w.part e).request_tag r)
    (record {
      pasid = (w.part e).pasid ((w.part e).request_binding r);
      page = (w.part e).request_page r;
      frame = w.mappings.frame m;
      write =
          w.mappings.write m;
    }) t ≡ result_by w (names.keep_outcome e c r m t)
kept_arrives w e c r m true = refl
kept_arrives w e c r m false = refl

over_is : (s : RequestState) → is_out s ≡ false → s ≡ Over
over_is Out h = absurd (cc)
over_is Doomed h = absurd (cc)
over_is Over h = refl

-- what a completion carries
abbrev carried_by : World → (e r : ℕ) → Option ℕ → Message
carried_by w e r None = CompletionMessage ((w.part e).request_tag r) 0 false false
carried_by w e r (Some m) = CompletionMessage ((w.part e).request_tag r) (w.mappings.frame m) true (w.mappings.write m)

out_arrives :
    (w : World) (e c r : ℕ) (o : Option ℕ) → Invariant w → e < w.config.endpoints
    → is_unreleased ((w.part e).stage ((w.part e).request_binding r)) ≡ true → (w.part e).at_tag ((w.part e).request_tag r) ≡ Some r
    → (s : RequestState) → (w.part e).request r ≡ s → is_out s ≡ true
    → by_message w e c (carried_by w e r o) ≡ result_by w (names.completion_outcome (w.part e) e c r o s)
out_arrives w e c r (Some m) i l u tag Out h out =
    ap (completion_result (device_of (wire w) e) e (number w.config.first c) (p.request_tag r) (w.mappings.frame m) true (w.mappings.write m))
    (tag_found w e r i l tag)
    ∙ ap (λ x. completion_by (device_of (wire w) e) e (number w.config.first c) (p.request_tag r) (w.mappings.frame m) true (w.mappings.write m)
    (is_doomed x) (request_wire p r)) h
    ∙ ap (keep_result e (number w.config.first c) (p.request_tag r)
    (record { pasid = p.pasid (p.request_binding r); page = p.request_page r; frame = w.mappings.frame m; write = w.mappings.write m }))
    (ap (λ (d : DeviceWire). is_full d.cache (p.pasid (p.request_binding r)) (p.request_page r)) (device_seen w e l) ∙ full_seen w e r i u)
    ∙ kept_arrives w e c r m (names.is_full p r)
  where
    p : Endpoint
    p = w.part e
out_arrives w e c r None i l u tag Out h out =
    ap (completion_result (device_of (wire w) e) e (number w.config.first c) ((w.part e).request_tag r) 0 false false) (tag_found w e r i l tag)
    ∙ ap (λ x. completion_by (device_of (wire w) e) e (number w.config.first c) ((w.part e).request_tag r) 0 false false (is_doomed x)
    (request_wire (w.part e) r)) h
out_arrives w e c r (Some m) i l u tag Doomed h out =
    ap (completion_result (device_of (wire w) e) e (number w.config.first c) ((w.part e).request_tag r) (w.mappings.frame m) true
    (w.mappings.write m)) (tag_found w e r i l tag)
    ∙ ap (λ x. completion_by (device_of (wire w) e) e (number w.config.first c) ((w.part e).request_tag r) (w.mappings.frame m) true
    (w.mappings.write m) (is_doomed x) (request_wire (w.part e) r)) h
out_arrives w e c r None i l u tag Doomed h out =
    ap (completion_result (device_of (wire w) e) e (number w.config.first c) ((w.part e).request_tag r) 0 false false) (tag_found w e r i l tag)
    ∙ ap (λ x. completion_by (device_of (wire w) e) e (number w.config.first c) ((w.part e).request_tag r) 0 false false (is_doomed x)
    (request_wire (w.part e) r)) h
out_arrives w e c r o i l u tag Over h out = absurd (cc)

over_arrives :
    (w : World) (e c d r : ℕ) (o : Option ℕ) → Invariant w → e < w.config.endpoints → (w.part e).phase ≡ Cleared d
    → by_message w e c (carried_by w e r o) ≡ result_by w (names.completion_outcome (w.part e) e c r o Over)
over_arrives w e c d r None i l ph =
    ap (completion_result (device_of (wire w) e) e (number w.config.first c) ((w.part e).request_tag r) 0 false false)
    (tag_missing w e d ((w.part e).request_tag r) i l ph)
over_arrives w e c d r (Some m) i l ph =
    ap (completion_result (device_of (wire w) e) e (number w.config.first c) ((w.part e).request_tag r) (w.mappings.frame m) true
    (w.mappings.write m)) (tag_missing w e d ((w.part e).request_tag r) i l ph)

pub completion_arrives :
    (w : World) (e c r : ℕ) (o : Option ℕ) → IsReached w → e < w.config.endpoints → (w.part e).message c ≡ Some (CompletionOf r o)
    → ArrivesAlike w e c (CompletionOf r o)
completion_arrives w e c r o re l m = ap (by_message w e c) (carried o m) ∙ go p.phase refl
  where
    p : Endpoint
    p = w.part e

    i : Invariant w
    i = re.invariant

    carried : (o : Option ℕ) → p.message c ≡ Some (CompletionOf r o) → p.carried c ≡ carried_by w e r o
    carried None h = (re.carried e).no_translation c r h
    carried (Some x) h = (re.carried e).completion c r x h

    out : ((d : ℕ) → p.phase ≢ Cleared d) → by_message w e c (carried_by w e r o) ≡ result_by w (names.completion_outcome p e c r o (p.request r))
    out ne =
        let tag : p.at_tag (p.request_tag r) ≡ Some r = (found w e i).completion c r o ne m in
        let is : is_out (p.request r) ≡ true = ((i.parts e).labels.tag_bears (p.request_tag r) r tag).1 in
        out_arrives w e c r o i l ((found w e i).out r is).0.unreleased tag (p.request r) refl is

    go : (x : Phase) → p.phase ≡ x → by_message w e c (carried_by w e r o) ≡ result_by w (names.completion_outcome p e c r o (p.request r))
    go Open h = out (λ d k. absurd (cc))
    go (ResetSent d) h = out (λ x k. absurd (cc))
    go (Cleared d) h =
        over_arrives w e c d r o i l h
        ∙ sym (ap (λ s. result_by w (names.completion_outcome p e c r o s)) (over_is (p.request r) ((i.parts e).resets.over d r h)))
