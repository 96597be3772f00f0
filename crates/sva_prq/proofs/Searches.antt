-- The first group that passes a test, and what filing and answering make of it.
use Rattle.std.proofs.Common.{◌^◌, subst, ◌≡◌, ℕ, ◌+◌, ◌-◌, ◌<◌, unwrap_or, Bool, true, false, cond, List, [], ◌∷◌, ◌++◌, length, Some, None, refl, sym}
use Rattle.std.proofs.Common.{ap, ◌∙◌}
use Rattle.std.proofs.lemmas.Bool.{or_parts, and_parts, eqb-true}
use Rattle.std.proofs.lemmas.Option.{MatchOption-at_none}
use Rattle.std.specs.List.{list_any, find}
use Rattle.sva_msg.specs.declared.messages.PageRequest.{PageRequest}
use Rattle.sva_prq.specs.Groups.{OpenGroup, Groups, is_collecting, has_job, new_group, with_request, filed_among, answered_among, after_answer, CanFile}
use Rattle.sva_prq.specs.Groups.{filed, unfinished_asks, job_of, job_made}
use Rattle.sva_prq.specs.Job.{ask_of}

module _ (p : OpenGroup → Bool) where
  pub find-none : (gs : List OpenGroup) → list_any p gs ≡ false → find p gs ≡ None
  find-none [] none = refl
  find-none (g ∷ gs) none =
      let parts = or_parts (p g) (list_any p gs) none in
      ap (λ t. cond t (Some g) (find p gs)) parts.0 ∙ find-none gs parts.1

  pub find-first : (front : List OpenGroup) (g : OpenGroup) (back : List OpenGroup) → list_any p front ≡ false → p g ≡ true
      → find p (front ++ g ∷ back) ≡ Some g
  find-first [] g back none passes = ap (λ t. cond t (Some g) (find p back)) passes
  find-first (h ∷ front) g back none passes =
      let parts = or_parts (p h) (list_any p front) none in
      ap (λ t. cond t (Some h) (find p (front ++ g ∷ back))) parts.0 ∙ find-first front g back parts.1 passes

-- filing goes to the first unfinished group, or to a new one
module _ (next unit binding : ℕ) (request : PageRequest) where
  pub filed_among-first : (front : List OpenGroup) (g : OpenGroup) (back : List OpenGroup)
      → list_any (is_collecting unit binding request.index) front ≡ false → is_collecting unit binding request.index g ≡ true
      → filed_among next unit binding request (front ++ g ∷ back) ≡ front ++ with_request g request ∷ back
  filed_among-first [] g back none passes =
      ap (λ t. cond t (with_request g request ∷ back) (g ∷ filed_among next unit binding request back)) passes
  filed_among-first (h ∷ front) g back none passes =
      let p = is_collecting unit binding request.index in
      let parts = or_parts (p h) (list_any p front) none in
      ap (λ t. cond t (with_request h request ∷ (front ++ g ∷ back)) (h ∷ filed_among next unit binding request (front ++ g ∷ back))) parts.0
      ∙ ap (λ gs. h ∷ gs) (filed_among-first front g back parts.1 passes)

  pub filed_among-none : (gs : List OpenGroup) → list_any (is_collecting unit binding request.index) gs ≡ false
      → filed_among next unit binding request gs ≡ gs ++ with_request (new_group next unit binding request.index) request ∷ []
  filed_among-none [] none = refl
  filed_among-none (h ∷ gs) none =
      let p = is_collecting unit binding request.index in
      let parts = or_parts (p h) (list_any p gs) none in
      ap (λ t. cond t (with_request h request ∷ gs) (h ∷ filed_among next unit binding request gs)) parts.0
      ∙ ap (λ gs. h ∷ gs) (filed_among-none gs parts.1)

-- an answer ends the first group whose job is made, if there is one
module _ (serial : ℕ) where
  pub answered_among-first : (front : List OpenGroup) (g : OpenGroup) (back : List OpenGroup) → list_any (has_job serial) front ≡ false
      → has_job serial g ≡ true → answered_among serial (front ++ g ∷ back) ≡ front ++ back
  answered_among-first [] g back none passes = ap (λ t. cond t back (g ∷ answered_among serial back)) passes
  answered_among-first (h ∷ front) g back none passes =
      let parts = or_parts (has_job serial h) (list_any (has_job serial) front) none in
      ap (λ t. cond t (front ++ g ∷ back) (h ∷ answered_among serial (front ++ g ∷ back))) parts.0
      ∙ ap (λ gs. h ∷ gs) (answered_among-first front g back parts.1 passes)

  pub answered_among-none : (gs : List OpenGroup) → list_any (has_job serial) gs ≡ false → answered_among serial gs ≡ gs
  answered_among-none [] none = refl
  answered_among-none (h ∷ gs) none =
      let parts = or_parts (has_job serial h) (list_any (has_job serial) gs) none in
      ap (λ t. cond t gs (h ∷ answered_among serial gs)) parts.0
      ∙ ap (λ gs. h ∷ gs) (answered_among-none gs parts.1)

-- the group that an unfinished place has names the binding and the index
job-unfinished : (unit binding : ℕ) (request : PageRequest) (gs : List OpenGroup) (g : OpenGroup)
    → find (is_collecting unit binding request.index) gs ≡ Some g → is_collecting unit binding request.index g ≡ true → (room next : ℕ)
    → job_of (with_request g request) ≡ job_made (record { groups = gs; room = room; next = next }) unit binding request
job-unfinished unit binding request gs g found passes room next =
    let all = and_parts _ _ passes in
    let three = and_parts _ _ all.0 in
    let two = and_parts _ _ three.0 in
    let same_unit : g.unit ≡ unit = eqb-true _ _ two.0 in
    let same_binding : g.binding ≡ binding = eqb-true _ _ two.1 in
    let same_index : g.index ≡ request.index = eqb-true _ _ three.1 in
    let same_asks : g.asks ≡ unfinished_asks unit binding request.index gs =
    ap (λ o. (unwrap_or o (new_group 0 unit binding request.index)).asks) (sym found) in
    λ i. cond request.last (Some (record {
      unit = same_unit i;
      binding = same_binding i;
      index = same_index i;
      asks = same_asks i ++ ask_of request ∷ [];
      serial = (unwrap_or (sym found i) (new_group next unit binding request.index)).serial;
    })) None

-- what filing leaves and makes, where an unfinished group takes the request
pub record FiledIn (s : Groups) (unit binding : ℕ) (request : PageRequest) (g : OpenGroup) : Type 0 where
  pub groups : (gs : List OpenGroup) → gs ≡ filed_among s.next unit binding request s.groups → record s { groups = gs } ≡ filed s unit binding request
  pub job : job_of (with_request g request) ≡ job_made s unit binding request

pub filed-in : (s : Groups) (unit binding : ℕ) (request : PageRequest) (g : OpenGroup)
    → find (is_collecting unit binding request.index) s.groups ≡ Some g → list_any (is_collecting unit binding request.index) s.groups ≡ true
    → is_collecting unit binding request.index g ≡ true → FiledIn s unit binding request g
filed-in s unit binding request g found any passes =
    record {
      groups = λ gs is i. record { groups = is i; room = cond (sym any i) s.room (s.room - 1); next = cond (sym any i) s.next (s.next + 1) };
      job = job-unfinished unit binding request s.groups g found passes s.room s.next;
    }

-- and where a group begins with it
pub record FiledNew (s : Groups) (unit binding : ℕ) (request : PageRequest) : Type 0 where
  pub found : find (is_collecting unit binding request.index) s.groups ≡ None
  pub groups : (gs : List OpenGroup) → gs ≡ s.groups ++ with_request (new_group s.next unit binding request.index) request ∷ []
      → record { groups = gs; room = s.room - 1; next = s.next + 1 } ≡ filed s unit binding request
  pub job : job_of (with_request (new_group s.next unit binding request.index) request) ≡ job_made s unit binding request

pub filed-new : (s : Groups) (unit binding : ℕ) (request : PageRequest) → list_any (is_collecting unit binding request.index) s.groups ≡ false
    → FiledNew s unit binding request
filed-new s unit binding request none =
    let p = is_collecting unit binding request.index in
    let found = find-none p s.groups none in
    record {
      found = found;
      groups = λ gs is i. record {
        groups = (is ∙ sym (filed_among-none s.next unit binding request s.groups none)) i;
        room = cond (sym none i) s.room (s.room - 1);
        next = cond (sym none i) s.next (s.next + 1);
      };
      job = λ i. cond request.last (Some (record {
        unit = unit;
        binding = binding;
        index = request.index;
        asks = (unwrap_or (sym found i) (new_group 0 unit binding request.index)).asks ++ ask_of request ∷ [];
        serial = (unwrap_or (sym found i) (new_group s.next unit binding request.index)).serial;
      })) None;
    }

-- so a request for which there is room may begin it
pub may_begin : (s t : Groups) (unit binding : ℕ) (request : PageRequest) → s ≡ t
    → list_any (is_collecting unit binding request.index) s.groups ≡ false → CanFile t unit binding request.index
    → (0 < s.room) × (s.next + 1 < 2 ^ 64)
may_begin s t unit binding request same none can =
    let found = (filed-new s unit binding request none).found in
    MatchOption-at_none _ (λ (g : OpenGroup). length g.asks < 32) found (subst (λ u. CanFile u unit binding request.index) (sym same) can)

-- what an answer leaves, where its group is there and where it isn't
pub answered-some : (s : Groups) (serial : ℕ) (gs : List OpenGroup) → list_any (has_job serial) s.groups ≡ true → gs ≡ answered_among serial s.groups
    → record s { groups = gs; room = s.room + 1 } ≡ after_answer s serial
answered-some s serial gs any is = λ i. record s { groups = is i; room = cond (sym any i) (s.room + 1) s.room }

pub answered-none : (s : Groups) (serial : ℕ) → list_any (has_job serial) s.groups ≡ false → s ≡ after_answer s serial
answered-none s serial none =
    λ i. record s { groups = sym (answered_among-none serial s.groups none) i; room = cond (sym none i) (s.room + 1) s.room }
