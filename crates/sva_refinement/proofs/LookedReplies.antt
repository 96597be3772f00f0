-- What a worker's reply does, read off what a host keeps: the response, the pages that a success maps, and the frames that
-- are free. It is what the definitions say of the job in hand.
use Rattle.std.proofs.Common.{◌≡◌, ◌≢◌, refl, ap, ap₂, sym, ◌∙◌, ℕ, zero, suc, ◌+◌, ◌<◌, ◌≤◌, Bool, true, false, arith}
use Rattle.std.proofs.Math.Path.{fun_ext}
use Rattle.std.specs.Prelude as prelude
use Rattle.std.specs.Prelude.{Option, Some, None, option_map, ◌&&◌, ◌||◌, not, ◌==◌, nat_lt, if◌then◌else◌, List, [], ◌∷◌, ◌++◌, map, length}
use Rattle.std.specs.List.{list_any}
use Rattle.sva_step.specs.declared.steps.Verdict.{Verdict}
use Rattle.sva_step.specs.declared.steps.Verdict.TheVariants as verdict
use Rattle.sva_model.specs.Words.{is_some, holds_of, select, tabulate}
use Rattle.sva_model.specs.Message.{Code}
use Rattle.sva_model.specs.State.{Stage, HostGroupState, Endpoint, World}
use Rattle.sva_model.specs.State.Stage.{Unbound, Live, Stopping, Draining, Invalidating, Quiet, Lost, Released}
use Rattle.sva_model.specs.State.HostGroupState.{NotFiled}
use Rattle.sva_model.specs.States.{is_open, is_unreleased, is_free_place, place}
use Rattle.sva_model.specs.Replies as names
use Rattle.sva_model.specs.Replies.{response, is_success, unseen, job_binding, job_space, job_asks}
use Rattle.sva_model.specs.Labels
use Rattle.sva_model.specs.Wire.{PlaceWire, AskWire, number, stage_wire, binding_wire, ask_wire, page_wire, pages_wire, place_wire_by, places_wire}
use Rattle.sva_model.specs.Wire.{job_wire, wire}
use Rattle.sva_laws.proofs.Groups.{is_filed_group}
use Rattle.sva_laws.proofs.Invariant.{Invariant, IsHeldBy}
use Rattle.sva_laws.proofs.LegalUnit.{group_there}
use Rattle.sva_labels.proofs.Tests.{none_before}
use Rattle.sva_labels.proofs.Lists.{select_same, select_length, tabulate_length}
use Rattle.sva_labels.specs.Finding.{pages_in, page_at, is_mapped, is_free, free_from, binding_of}
use Rattle.sva_labels.specs.Replying.{response_by, response_for, response_to, responds, replies_success, space_by, pages_of_job, newly_mapped}
use Rattle.sva_labels.specs.Replying.{is_write_asked, is_read_only_at, is_write_of_read_only}
use Rattle.sva_refinement.proofs.EndpointViews.{unit_seen}
use Rattle.sva_refinement.proofs.LookedBindings.{binding_named, binding_released}
use Rattle.sva_refinement.proofs.LookedSpaces.{pages_of_name, page_found, mapped_there, frames_free}

-- The job in hand.

-- a worker holds this job
pub record InHandNow (w : World) (j : ℕ) : Type 0 where
  pub worker : ℕ
  pub held : w.hand worker ≡ Some j

group_made : (w : World) (j : ℕ) → Invariant w → InHandNow w j → (w.job j).group < (w.part (w.job j).endpoint).groups
group_made w j i h =
    made ((w.part (w.job j).endpoint).host_group (w.job j).group) (i.hands.held h.worker j h.held)
    ((i.parts (w.job j).endpoint).bounds.host_group (w.job j).group)
  where
    made :
        (s : HostGroupState) → IsHeldBy s h.worker → ((w.part (w.job j).endpoint).groups ≤ (w.job j).group → s ≡ NotFiled)
        → (w.job j).group < (w.part (w.job j).endpoint).groups
    made s k b = grind (arith)

pub job_there : (w : World) (j : ℕ) → Invariant w → InHandNow w j → (w.job j).endpoint < w.config.endpoints
job_there w j i h = group_there w (w.job j).endpoint (w.job j).group i (group_made w j i h)

filed_bound : (w : World) (j : ℕ) → Invariant w → InHandNow w j → (w.part (w.job j).endpoint).stage (job_binding w j) ≢ Unbound
filed_bound w j i h e =
    (i.parts (w.job j).endpoint).groups.asker_bound (w.job j).group (group_made w j i h)
    (ap (w.part (w.job j).endpoint).stage
    (sym ((i.parts (w.job j).endpoint).groups.under (w.job j).group
    (filed ((w.part (w.job j).endpoint).host_group (w.job j).group) (i.hands.held h.worker j h.held)))) ∙ e)
  where
    filed : (s : HostGroupState) → IsHeldBy s h.worker → is_filed_group s ≡ true
    filed s k = grind arith

-- The response.

staged : (first : ℕ) (p : Endpoint) (o : Bool) (s : Stage) (v : Verdict) → response_by o (stage_wire first p s) v ≡ response o s v
staged first p true Unbound v = refl
staged first p true Live v = refl
staged first p true (Stopping m) v = refl
staged first p true (Draining k) v = refl
staged first p true (Invalidating k l) v = refl
staged first p true Quiet v = refl
staged first p true Lost v = refl
staged first p true Released v = refl
staged first p false Unbound v = refl
staged first p false Live v = refl
staged first p false (Stopping m) v = refl
staged first p false (Draining k) v = refl
staged first p false (Invalidating k l) v = refl
staged first p false Quiet v = refl
staged first p false Lost v = refl
staged first p false Released v = refl

no_response : (o : Bool) (s : Stage) (v : Verdict) → is_unreleased s ≡ false → response o s v ≡ None
no_response true Unbound v h = refl
no_response true Released v h = refl
no_response false Unbound v h = refl
no_response false Released v h = refl
no_response o Live v h = absurd (cc (h))
no_response o (Stopping m) v h = absurd (cc (h))
no_response o (Draining k) v h = absurd (cc (h))
no_response o (Invalidating k l) v h = absurd (cc (h))
no_response o Quiet v h = absurd (cc (h))
no_response o Lost v h = absurd (cc (h))

pub response_there : (w : World) (j : ℕ) (v : Verdict) → Invariant w → InHandNow w j → response_to (wire w) (job_wire w j) v ≡ names.response_to w j v
response_there w j v i h =
    ap (λ u. response_for u.is_open (binding_of (wire w) (number w.config.first (job_binding w j))) v) (unit_seen w (w.job j).endpoint (job_there w j i h))
    ∙ go (is_unreleased ((w.part (w.job j).endpoint).stage (job_binding w j))) refl
  where
    go :
        (u : Bool) → is_unreleased ((w.part (w.job j).endpoint).stage (job_binding w j)) ≡ u
        → response_for (is_open (w.part (w.job j).endpoint).phase) (binding_of (wire w) (number w.config.first (job_binding w j))) v ≡ names.response_to w j v
    go true e =
        ap (λ o. response_for (is_open (w.part (w.job j).endpoint).phase) o v) (binding_named w (w.job j).endpoint (job_binding w j) i e)
        ∙ staged w.config.first (w.part (w.job j).endpoint) (is_open (w.part (w.job j).endpoint).phase)
        ((w.part (w.job j).endpoint).stage (job_binding w j)) v
    go false e =
        ap (λ o. response_for (is_open (w.part (w.job j).endpoint).phase) o v)
        (binding_released w (w.job j).endpoint (job_binding w j) i (filed_bound w j i h) e)
        ∙ sym (no_response (is_open (w.part (w.job j).endpoint).phase) ((w.part (w.job j).endpoint).stage (job_binding w j)) v e)

some_same : {A : Type 0} (o : Option A) → prelude.is_some o ≡ is_some o
some_same None = refl
some_same (Some a) = refl

pub responds_there : (w : World) (j : ℕ) → Invariant w → InHandNow w j → responds (wire w) (job_wire w j) ≡ names.responds w j
responds_there w j i h = ap prelude.is_some (response_there w j verdict.Invalid i h) ∙ some_same (names.response_to w j verdict.Invalid)

pub success_there : (w : World) (j : ℕ) (v : Verdict) → Invariant w → InHandNow w j → replies_success (wire w) (job_wire w j) v ≡ names.replies_success w j v
success_there w j v i h = ap is_success (response_there w j v i h)

-- where one is sent, the binding is unreleased
pub sent_unreleased : (o : Bool) (s : Stage) (v : Verdict) (code : Code) → response o s v ≡ Some code → is_unreleased s ≡ true
sent_unreleased o s v code h = go (is_unreleased s) refl
  where
    go : (b : Bool) → is_unreleased s ≡ b → b ≡ true
    go true e = refl
    go false e = absurd (cc (sym (no_response o s v e) ∙ h))

success_sent : (o : Option Code) → is_success o ≡ true → (code : Code) × (o ≡ Some code)
success_sent None h = absurd (cc (h))
success_sent (Some code) h = (code, refl)

-- A success.

-- the binding that the job names is there
pub record Succeeds (w : World) (j : ℕ) : Type 0 where
  pub binding :
      binding_of (wire w) (number w.config.first (job_binding w j))
      ≡ Some (binding_wire w.config.first (w.job j).endpoint (w.part (w.job j).endpoint) (job_binding w j))
  pub pages : pages_of_job (wire w) (job_wire w j) ≡ pages_wire w.mappings (job_space w j)

pub succeeds : (w : World) (j : ℕ) (v : Verdict) → Invariant w → names.replies_success w j v ≡ true → Succeeds w j
succeeds w j v i s =
    let c = success_sent (names.response_to w j v) s in
    let u = sent_unreleased (is_open (w.part (w.job j).endpoint).phase) ((w.part (w.job j).endpoint).stage (job_binding w j)) v c.0 c.1 in
    let b = binding_named w (w.job j).endpoint (job_binding w j) i u in
    record {
      binding = b;
      pages =
          ap (λ o. pages_in (wire w) (space_by o)) b ∙ pages_of_name w (job_space w j) i.mapped (i.mapped.bound_live (w.job j).endpoint (job_binding w j) u);
    }

-- what the requests ask
pages_asked : (p : Endpoint) (rs : List ℕ) → map (λ (a : AskWire). a.page) (map (ask_wire p) rs) ≡ map p.asked_page rs
pages_asked p [] = refl
pages_asked p (r ∷ rs) = ap (λ xs. p.asked_page r ∷ xs) (pages_asked p rs)

pub writes_asked : (p : Endpoint) (q : ℕ) (rs : List ℕ) → is_write_asked (map (ask_wire p) rs) q ≡ list_any (λ r. p.asked_page r == q && p.asks_write r) rs
writes_asked p q [] = refl
writes_asked p q (r ∷ rs) = ap (λ b. (p.asked_page r == q && p.asks_write r) || b) (writes_asked p q rs)

pub newly_there : (w : World) (j : ℕ) → Invariant w → Succeeds w j → newly_mapped (wire w) (job_wire w j) ≡ names.newly_mapped w j
newly_there w j i s =
    ap₂ (λ pages qs. unseen (is_mapped pages) qs) s.pages (pages_asked (w.part (w.job j).endpoint) (job_asks w j))
    ∙ ap (λ f. unseen f (map (w.part (w.job j).endpoint).asked_page (job_asks w j))) (fun_ext (λ q. mapped_there w (job_space w j) q i.mapped))

read_only : (w : World) (o : Option ℕ) → is_read_only_at (option_map (page_wire w.mappings) o) ≡ holds_of (λ m. not (w.mappings.write m)) o
read_only w None = refl
read_only w (Some m) = refl

pub read_only_there : (w : World) (j : ℕ) → Invariant w → Succeeds w j → is_write_of_read_only (wire w) (job_wire w j) ≡ names.is_write_of_read_only w j
read_only_there w j i s =
    ap (λ pages. list_any (λ a. a.write && is_read_only_at (page_at pages a.page)) (map (ask_wire (w.part (w.job j).endpoint)) (job_asks w j))) s.pages
    ∙ each (job_asks w j)
  where
    each :
        (rs : List ℕ)
        → list_any (λ a. a.write && is_read_only_at (page_at (pages_wire w.mappings (job_space w j)) a.page))
        (map (ask_wire (w.part (w.job j).endpoint)) rs)
        ≡ list_any
        (λ r. (w.part (w.job j).endpoint).asks_write r && holds_of (λ m. not (w.mappings.write m))
        (w.mappings.at (job_space w j) ((w.part (w.job j).endpoint).asked_page r))) rs
    each [] = refl
    each (r ∷ rs) =
        ap₂ (λ a b. ((w.part (w.job j).endpoint).asks_write r && a) || b)
        (ap is_read_only_at (page_found w (job_space w j) ((w.part (w.job j).endpoint).asked_page r) i.mapped)
        ∙ read_only w (w.mappings.at (job_space w j) ((w.part (w.job j).endpoint).asked_page r)))
        (each rs)

-- The free frames, lowest first.

free_push : (k : ℕ) (xs : List PlaceWire) (y : PlaceWire) → free_from k (xs ++ y ∷ []) ≡ free_from k xs ++ (if is_free y then (k + length xs) ∷ [] else [])
free_push k [] y = ap (λ n. if is_free y then n ∷ [] else []) (plain k)
  where
    plain : (k : ℕ) → k ≡ k + 0
    plain k = omega arith
free_push k (x ∷ xs) y = go (is_free x) (free_push (suc k) xs y ∙ ap (λ n. free_from (suc k) xs ++ (if is_free y then n ∷ [] else [])) (next k (length xs)))
  where
    next : (k n : ℕ) → suc k + n ≡ k + suc n
    next k n = omega arith

    go :
        (b : Bool) → free_from (suc k) (xs ++ y ∷ []) ≡ free_from (suc k) xs ++ (if is_free y then (k + suc (length xs)) ∷ [] else [])
        → (if b then k ∷ free_from (suc k) (xs ++ y ∷ []) else free_from (suc k) (xs ++ y ∷ []))
        ≡ (if b then k ∷ free_from (suc k) xs else free_from (suc k) xs) ++ (if is_free y then (k + suc (length xs)) ∷ [] else [])
    go true h = ap (λ zs. k ∷ zs) h
    go false h = h

free_table : (n : ℕ) (f : ℕ → PlaceWire) → free_from 0 (tabulate n f) ≡ select n (λ k. is_free (f k))
unfolding tabulate select
free_table zero f = refl
free_table (suc n) f =
    free_push 0 (tabulate n f) (f n)
    ∙ ap₂ (λ xs z. xs ++ (if is_free (f n) then z ∷ [] else [])) (free_table n f) (none_before (length (tabulate n f)) ∙ tabulate_length n f)

pub free_there : (w : World) → free_from 0 (places_wire w) ≡ names.free_list w
free_there w =
    free_table w.config.frames (λ f. place_wire_by w f (place w f))
    ∙ select_same w.config.frames (λ f. is_free (place_wire_by w f (place w f))) (λ f. is_free_place (place w f)) (λ f l. frames_free w f)

pub free_count : (w : World) → length (free_from 0 (places_wire w)) ≡ Labels.free_frames w
free_count w = ap length (free_there w) ∙ select_length w.config.frames (λ f. is_free_place (place w f))
