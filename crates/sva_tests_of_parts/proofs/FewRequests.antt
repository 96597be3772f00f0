-- What calls leave of groups that have few requests.
use Rattle.std.proofs.Common.{ℕ, ◌+◌, ◌<◌, ◌≤◌, ◌^◌, Bool, true, false, cond, List, [], ◌∷◌, length, Some, arith}
use Rattle.std.proofs.lemmas.List.{length-append}
use Rattle.std.proofs.lemmas.List.Elements.{All-nil, All-cons, All-filter, All-head, All-tail}
use Rattle.std.specs.List.{find, list_any}
use Rattle.std.specs.Prelude.{MatchOption}
use Rattle.sva_msg.specs.declared.messages.PageRequest.{PageRequest}
use Rattle.sva_prq.specs.Groups.{OpenGroup, Groups, is_collecting, has_job, with_request, new_group}
use Rattle.sva_prq.specs.Groups.{filed_among, filed, after_answer, answered_among, CanFile, is_of_other_unit, with_room, without_unit}
use Rattle.sva_prq.specs.Job.{ask_of}
use Rattle.sva_tests_of_parts.specs.Few.{AreFew, HasFew}

-- the group has no more requests than this
abbrev HasFewAsks : ℕ → OpenGroup → Type 0
HasFewAsks n g = length g.asks ≤ n

one_more : (n : ℕ) (gs : List OpenGroup) → AreFew n gs → AreFew (n + 1) gs
one_more n gs few k d less = omega (arith, few k d less)

filed_few : (n next unit binding : ℕ) (request : PageRequest) (gs : List OpenGroup) → AreFew n gs
    → AreFew (n + 1) (filed_among next unit binding request gs)
filed_few n next unit binding request [] few =
    All-cons (HasFewAsks (n + 1)) (with_request (new_group next unit binding request.index) request) [] (omega arith) (All-nil (HasFewAsks (n + 1)))
filed_few n next unit binding request (g ∷ gs) few =
    let first = All-head (HasFewAsks n) g gs few in
    let rest = All-tail (HasFewAsks n) g gs few in
    elim (is_collecting unit binding request.index g)
    as (λ t. AreFew (n + 1) (cond t (with_request g request ∷ gs) (g ∷ filed_among next unit binding request gs))) [
      | true ↦ All-cons (HasFewAsks (n + 1)) (with_request g request) gs (omega (arith, first, length-append g.asks (ask_of request ∷ [])))
          (one_more n gs rest)
      | false ↦ All-cons (HasFewAsks (n + 1)) g (filed_among next unit binding request gs) (omega (arith, first))
          (filed_few n next unit binding request gs rest)
    ]

answered_few : (n serial : ℕ) (gs : List OpenGroup) → AreFew n gs → AreFew n (answered_among serial gs)
answered_few n serial [] few = few
answered_few n serial (g ∷ gs) few =
    let first = All-head (HasFewAsks n) g gs few in
    let rest = All-tail (HasFewAsks n) g gs few in
    elim (has_job serial g) as (λ t. AreFew n (cond t gs (g ∷ answered_among serial gs))) [
      | true ↦ rest
      | false ↦ All-cons (HasFewAsks n) g (answered_among serial gs) first (answered_few n serial gs rest)
    ]

found_few : (n : ℕ) (p : OpenGroup → Bool) (gs : List OpenGroup) (Room : Type 0) → n < 32 → Room → AreFew n gs
    → MatchOption (find p gs) Room (λ (g : OpenGroup). length g.asks < 32)
found_few n p [] Room less room few = room
found_few n p (g ∷ gs) Room less room few =
    let first = All-head (HasFewAsks n) g gs few in
    elim (p g) as (λ t. MatchOption (cond t (Some g) (find p gs)) Room (λ (k : OpenGroup). length k.asks < 32)) [
      | true ↦ omega (arith, less, first)
      | false ↦ found_few n p gs Room less room (All-tail (HasFewAsks n) g gs few)
    ]

-- fewer than 32 requests were filed, and there is room: so one more may be
pub can_file : (n : ℕ) (s : Groups) (unit binding index : ℕ) → n < 32 → HasFew n s → 0 < s.room → CanFile s unit binding index
can_file n s unit binding index less (few, serials) room =
    found_few n (is_collecting unit binding index) s.groups ((0 < s.room) × (s.next + 1 < 2 ^ 64)) less
    (room, omega (arith, less, serials)) few

pub some_room : (s : Groups) → 0 < (with_room s).room
some_room s = omega arith

-- a request that begins a group takes one serial
serials_filed : (n : ℕ) (s : Groups) (unit binding : ℕ) (request : PageRequest) → s.next ≤ n → (filed s unit binding request).next ≤ n + 1
serials_filed n s unit binding request few =
    elim (list_any (is_collecting unit binding request.index) s.groups) as (λ t. cond t s.next (s.next + 1) ≤ n + 1) [
      | true ↦ omega (arith, few)
      | false ↦ omega (arith, few)
    ]

pub filed_has_few : (n : ℕ) (s : Groups) (unit binding : ℕ) (request : PageRequest) → HasFew n s → HasFew (n + 1) (filed s unit binding request)
filed_has_few n s unit binding request (few, serials) =
    (filed_few n s.next unit binding request s.groups few, serials_filed n s unit binding request serials)

pub answered_has_few : (n serial : ℕ) (s : Groups) → HasFew n s → HasFew n (after_answer s serial)
answered_has_few n serial s (few, serials) = (answered_few n serial s.groups few, serials)

pub dropped_has_few : (n unit : ℕ) (s : Groups) → HasFew n s → HasFew n (without_unit s unit)
dropped_has_few n unit s (few, serials) = (All-filter (is_of_other_unit unit) (HasFewAsks n) s.groups few, serials)
