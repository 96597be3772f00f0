-- Where each unit that submits has room for two descriptors, what frames would wait for has room at each unit: it is awaited
-- there already, or fewer than 64 different cookies are. For what is awaited at an open unit is a wait in its queue.
use Rattle.std.proofs.Common.{◌≡◌, ◌≢◌, ◌⊎◌, inl, inr, refl, ap, sym, subst, ◌∙◌, ℕ, zero, suc, ◌+◌, ◌<◌, ◌≤◌, Bool, true, false, arith}
use Rattle.std.specs.Prelude.{Option, Some, None, ◌&&◌, ◌||◌, ◌==◌, nat_lt, if◌then◌else◌, List, [], ◌∷◌, map, length, slice_get, slice_index_or}
use Rattle.std.specs.List.{find}
use Rattle.std.specs.Set.{distinct_count, is_member, remove_key, unique_keys}
use Rattle.std.proofs.lemmas.Map.Made.{length-remove_key}
use Rattle.std.proofs.lemmas.Option.{get_or_from_slice_get}
use Rattle.std.proofs.lemmas.Bool.Decides.{nat_tests}
use Rattle.std.proofs.lemmas.Bool.{and_from, eqb-true, ltb-true, or_right}
use Rattle.sva_labels.proofs.Tests.{first_holds, is_itself}
use Rattle.sva_model.specs.Wire.{Wire, BindingWire, StageWire, PlaceWire, TargetWire, Descriptor, UnitWire}
use Rattle.sva_model.specs.Wire.TargetWire.{Cookie, ResetEnd}
use Rattle.sva_model.specs.Wire.StageWire.{LiveWire, StoppingWire, DrainingWire, InvalidatingWire, QuietWire, LostWire}
use Rattle.sva_model.specs.Wire.Descriptor.{RangeDescriptor, PasidDescriptor, WaitDescriptor}
use Rattle.sva_labels.proofs.Lists.{tabulate_at, tabulate_past}
use Rattle.sva_labels.specs.Finding.{unit_of, bound_at, is_wait_done, has_room, submits, submits_by, is_before_invalidating}
use Rattle.sva_labels.specs.Moves.{targets_of, target_by, target_by_stage, cookie_at}
use Rattle.sva_labels.specs.Sound.{IsSound, HasWait, target_there, cookies_in, awaited_at}

-- Different numbers of a list are no more than another list is long that has each of them.

still_there : (x q : ℕ) (ys : List ℕ) → q ≢ x → is_member (◌==◌) ys q ≡ true → is_member (◌==◌) (remove_key (λ y. x == y) ys) q ≡ true
still_there x q [] ne h = h
still_there x q (y ∷ ys) ne h = go (x == y) refl (q == y) refl h (still_there x q ys ne)
  where
    both : (a b y : ℕ) → (a == y) ≡ true → (b == y) ≡ true → b ≡ a
    both a b y h k = grind (arith, nat_tests)

    go :
        (b : Bool) → (x == y) ≡ b → (c : Bool) → (q == y) ≡ c → (c || is_member (◌==◌) ys q) ≡ true
        → (is_member (◌==◌) ys q ≡ true → is_member (◌==◌) (remove_key (λ z. x == z) ys) q ≡ true)
        → is_member (◌==◌) (if b then ys else y ∷ remove_key (λ z. x == z) ys) q ≡ true
    go true s true t k rest = absurd (ne (both x q y s t))
    go true s false t k rest = k
    go false s true t k rest = ap (λ c. c || is_member (◌==◌) (remove_key (λ z. x == z) ys) q) t
    go false s false t k rest = ap (λ c. c || is_member (◌==◌) (remove_key (λ z. x == z) ys) q) t ∙ rest k

itself : (x : ℕ) (xs : List ℕ) → is_member (◌==◌) (x ∷ xs) x ≡ true
itself x xs = ap (λ c. c || is_member (◌==◌) xs x) (is_itself x)

pub distinct_within : (xs ys : List ℕ) → ((q : ℕ) → is_member (◌==◌) xs q ≡ true → is_member (◌==◌) ys q ≡ true) → distinct_count (◌==◌) xs ≤ length ys
distinct_within [] ys h = omega arith
distinct_within (x ∷ xs) ys h =
    go (is_member (◌==◌) xs x) refl (distinct_within xs ys (λ q m. h q (or_right (q == x) (is_member (◌==◌) xs q) m)))
    (λ n. distinct_within xs (remove_key (λ y. x == y) ys)
    (λ q m. still_there x q ys (λ e. absurd (cc (sym m ∙ ap (is_member (◌==◌) xs) e ∙ n))) (h q (or_right (q == x) (is_member (◌==◌) xs q) m))))
  where
    go :
        (b : Bool) → is_member (◌==◌) xs x ≡ b → distinct_count (◌==◌) xs ≤ length ys
        → (is_member (◌==◌) xs x ≡ false → distinct_count (◌==◌) xs ≤ length (remove_key (λ y. x == y) ys))
        → length (if b then unique_keys (◌==◌) xs else x ∷ unique_keys (◌==◌) xs) ≤ length ys
    go true m r s = r
    go false m r s =
        let less = s m in
        let gone = length-remove_key (λ y. x == y) ys (h x (itself x xs)) in
        omega (arith, less, gone)

one_more : (x : ℕ) (xs : List ℕ) → is_member (◌==◌) xs x ≡ false → distinct_count (◌==◌) (x ∷ xs) ≡ suc (distinct_count (◌==◌) xs)
one_more x xs h = ap (λ b. length (if b then unique_keys (◌==◌) xs else x ∷ unique_keys (◌==◌) xs)) h

-- The waits in a queue.

abbrev waits_in : List Descriptor → List ℕ
waits_in [] = []
waits_in (WaitDescriptor cookie drain ∷ ds) = cookie ∷ waits_in ds
waits_in (_ ∷ ds) = waits_in ds

waits_length : (ds : List Descriptor) → length (waits_in ds) ≤ length ds
waits_length [] = omega arith
waits_length (WaitDescriptor c x ∷ ds) = let r = waits_length ds in omega (arith, r)
waits_length (RangeDescriptor t r ∷ ds) = let r = waits_length ds in omega (arith, r)
waits_length (PasidDescriptor t ∷ ds) = let r = waits_length ds in omega (arith, r)

wait_in : (ds : List Descriptor) (k c : ℕ) (x : Bool) → slice_get ds k ≡ Some (WaitDescriptor c x) → is_member (◌==◌) (waits_in ds) c ≡ true
wait_in [] k c x h = absurd (cc (h))
wait_in (d ∷ ds) zero c x h = subst (λ z. is_member (◌==◌) (waits_in (z ∷ ds)) c ≡ true) (sym (one d (WaitDescriptor c x) h)) (itself c (waits_in ds))
  where
    one : (a b : Descriptor) → Some a ≡ Some b → a ≡ b
    one a b h = cc
wait_in (RangeDescriptor t r ∷ ds) (suc k) c x h = wait_in ds k c x h
wait_in (PasidDescriptor t ∷ ds) (suc k) c x h = wait_in ds k c x h
wait_in (WaitDescriptor d y ∷ ds) (suc k) c x h = or_right (c == d) (is_member (◌==◌) (waits_in ds) c) (wait_in ds k c x h)

-- What is awaited at a unit.

record IsAwaitedBy (e : ℕ) (places : List PlaceWire) (c : ℕ) : Type 0 where
  frame : ℕ
  place : PlaceWire
  stands : slice_get places frame ≡ Some place
  awaits : target_there e place ≡ Some (Cookie c)

awaited_by : (e : ℕ) (places : List PlaceWire) (c : ℕ) → is_member (◌==◌) (awaited_at e places) c ≡ true → IsAwaitedBy e places c
awaited_by e [] c h = absurd (cc (h))
awaited_by e (x ∷ places) c h = go (target_there e x) refl h (awaited_by e places c)
  where
    later : IsAwaitedBy e places c → IsAwaitedBy e (x ∷ places) c
    later a = record { frame = suc a.frame; place = a.place; stands = a.stands; awaits = a.awaits }

    here :
        (d : ℕ) → target_there e x ≡ Some (Cookie d) → (b : Bool) → (c == d) ≡ b → (b || is_member (◌==◌) (awaited_at e places) c) ≡ true
        → (is_member (◌==◌) (awaited_at e places) c ≡ true → IsAwaitedBy e places c)
        → IsAwaitedBy e (x ∷ places) c
    here d t true s k rest = record { frame = 0; place = x; stands = refl; awaits = t ∙ ap (λ z. Some (Cookie z)) (sym (eqb-true c d s)) }
    here d t false s k rest = later (rest k)

    go :
        (t : Option TargetWire) → target_there e x ≡ t → is_member (◌==◌) (cookies_in (t ∷ map (target_there e) places)) c ≡ true
        → (is_member (◌==◌) (awaited_at e places) c ≡ true → IsAwaitedBy e places c)
        → IsAwaitedBy e (x ∷ places) c
    go None t k rest = later (rest k)
    go (Some ResetEnd) t k rest = later (rest k)
    go (Some (Cookie d)) t k rest = here d t (c == d) refl k rest

queued_all :
    (w : Wire) → IsSound w → (e : ℕ) → e < length w.parts → (unit_of w e).is_open ≡ true → (q : ℕ) → is_member (◌==◌) (awaited_at e w.places) q ≡ true
    → is_member (◌==◌) (waits_in (unit_of w e).queue) q ≡ true
queued_all w s e l op q m =
    let a = awaited_by e w.places q m in
    let h = s.awaited_queued e a.frame q a.place l op a.stands a.awaits in
    wait_in (unit_of w e).queue h.place q h.drain h.stands

-- A binding that is found.

record IsFoundAt (e n : ℕ) (bindings : List BindingWire) (b : BindingWire) : Type 0 where
  place : ℕ
  stands : slice_get bindings place ≡ Some b
  endpoint : b.endpoint ≡ e

found_at :
    (e n : ℕ) (bindings : List BindingWire) (b : BindingWire) → find (λ x. x.endpoint == e && x.space == n) bindings ≡ Some b
    → IsFoundAt e n bindings b
found_at e n [] b h = absurd (cc (h))
found_at e n (x ∷ bindings) b h = go (x.endpoint == e && x.space == n) refl h (found_at e n bindings b)
  where
    go :
        (t : Bool) → (x.endpoint == e && x.space == n) ≡ t → (if t then Some x else find (λ x. x.endpoint == e && x.space == n) bindings) ≡ Some b
        → (find (λ x. x.endpoint == e && x.space == n) bindings ≡ Some b → IsFoundAt e n bindings b)
        → IsFoundAt e n (x ∷ bindings) b
    go true t k rest = record {
      place = 0;
      stands = k;
      endpoint =
          ap (λ o. the_endpoint o) (sym k) ∙ eqb-true x.endpoint e (first_holds (x.endpoint == e) (x.space == n) t);
    }
      where
        the_endpoint : Option BindingWire → ℕ
        the_endpoint None = 0
        the_endpoint (Some z) = z.endpoint
    go false t k rest = let r = rest k in record { place = suc r.place; stands = r.stands; endpoint = r.endpoint }

-- The room.

room_of : (unit : UnitWire) (k : ℕ) → has_room unit k ≡ true → length unit.queue + k ≤ 64
room_of unit k h = grind (arith, nat_tests)

pub same_cookie : (c d : ℕ) → Some (Cookie c) ≡ Some (Cookie d) → c ≡ d
same_cookie c d h = cc

-- where the unit submits
few_by_room :
    (w : Wire) → IsSound w → (e : ℕ) → e < length w.parts → (unit_of w e).is_open ≡ true → has_room (unit_of w e) 2 ≡ true
    → distinct_count (◌==◌) (awaited_at e w.places) < 64
few_by_room w s e l op r =
    let d = distinct_within (awaited_at e w.places) (waits_in (unit_of w e).queue) (queued_all w s e l op) in
    let k = waits_length (unit_of w e).queue in
    let m = room_of (unit_of w e) 2 r in
    omega (arith, d, k, m)

-- where it is a wait that is in the queue
few_by_wait :
    (w : Wire) → IsSound w → (e c : ℕ) → e < length w.parts → (unit_of w e).is_open ≡ true → HasWait (unit_of w e) c
    → is_member (◌==◌) (awaited_at e w.places) c ≡ false
    → distinct_count (◌==◌) (awaited_at e w.places) < 64
few_by_wait w s e c l op h n =
    let d = distinct_within (c ∷ awaited_at e w.places) (waits_in (unit_of w e).queue) (λ q m. either q (q == c) refl m) in
    let k = waits_length (unit_of w e).queue in
    let f = s.queue_fits e l in
    let o = one_more c (awaited_at e w.places) n in
    omega (arith, d, k, f, o)
  where
    either :
        (q : ℕ) (b : Bool) → (q == c) ≡ b → (b || is_member (◌==◌) (awaited_at e w.places) q) ≡ true
        → is_member (◌==◌) (waits_in (unit_of w e).queue) q ≡ true
    either q true t m = ap (is_member (◌==◌) (waits_in (unit_of w e).queue)) (eqb-true q c t) ∙ wait_in (unit_of w e).queue h.place c h.drain h.stands
    either q false t m = queued_all w s e l op q m

submits_so :
    (w : Wire) (e n : ℕ) (b : BindingWire) → bound_at w e n ≡ Some b → is_before_invalidating b.stage ≡ true → (unit_of w e).is_open ≡ true
    → submits w n e ≡ true
submits_so w e n b f st op = ap (submits_by (unit_of w e)) f ∙ and_from (unit_of w e).is_open (is_before_invalidating b.stage) op st

pub room_for_waits :
    (w : Wire) → IsSound w
    → (n : ℕ)
    → ((e : ℕ) → e < length w.parts → submits w n e ≡ true → has_room (unit_of w e) 2 ≡ true)
    → (e c : ℕ)
    → slice_index_or (targets_of w n) e None ≡ Some (Cookie c)
    → is_member (◌==◌) (awaited_at e w.places) c ≡ false
    → distinct_count (◌==◌) (awaited_at e w.places) < 64
room_for_waits w s n room e c h new = by_table (low_or_not e)
  where
    target : ℕ → Option TargetWire
    target x = if nat_lt x (length w.parts) then target_by (unit_of w x) (cookie_at w n x) (bound_at w x n) else None

    low_or_not : (e : ℕ) → (e < 8) ⊎ (8 ≤ e)
    low_or_not e = grind arith

    by_submission :
        (b : BindingWire) → e < length w.parts → submits w n e ≡ true → (unit_of w e).is_open ≡ true
        → distinct_count (◌==◌) (awaited_at e w.places) < 64
    by_submission b l t op = few_by_room w s e l op (room e l t)

    before :
        (b : BindingWire) → e < length w.parts → (z : Bool) → (unit_of w e).is_open ≡ z → ((unit_of w e).is_open ≡ true → submits w n e ≡ true)
        → Some (if z then Cookie (cookie_at w n e) else ResetEnd) ≡ Some (Cookie c)
        → distinct_count (◌==◌) (awaited_at e w.places) < 64
    before b l true op t k = by_submission b l (t op) op
    before b l false op t k = absurd (cc (k))

    invalidating :
        (b : BindingWire) (own : ℕ) → e < length w.parts → bound_at w e n ≡ Some b → b.stage ≡ InvalidatingWire own → (d z : Bool)
        → is_wait_done (unit_of w e) own ≡ d → (unit_of w e).is_open ≡ z
        → (if d then None else Some (if z then Cookie own else ResetEnd)) ≡ Some (Cookie c)
        → distinct_count (◌==◌) (awaited_at e w.places) < 64
    invalidating b own l f st true z nd op k = absurd (cc (k))
    invalidating b own l f st false false nd op k = absurd (cc (k))
    invalidating b own l f st false true nd op k =
        let is = found_at e n w.bindings b f in
        let wait : HasWait (unit_of w e) own =
        subst (λ x. HasWait (unit_of w x) own) is.endpoint
        (s.invalidating_queued is.place own b is.stands st
        (ap (λ x. (unit_of w x).is_open) is.endpoint ∙ op)
        (ap (λ x. is_wait_done (unit_of w x) own) is.endpoint ∙ nd)) in
        few_by_wait w s e c l op (subst (λ x. HasWait (unit_of w e) x) (same_cookie own c k) wait) new

    by_stage :
        (b : BindingWire) → e < length w.parts → bound_at w e n ≡ Some b → (st : StageWire) → b.stage ≡ st
        → target_by_stage (unit_of w e) (cookie_at w n e) st ≡ Some (Cookie c)
        → distinct_count (◌==◌) (awaited_at e w.places) < 64
    by_stage b l f LiveWire st k = before b l (unit_of w e).is_open refl (λ op. submits_so w e n b f (ap is_before_invalidating st) op) k
    by_stage b l f (StoppingWire m) st k = before b l (unit_of w e).is_open refl (λ op. submits_so w e n b f (ap is_before_invalidating st) op) k
    by_stage b l f (DrainingWire own) st k = before b l (unit_of w e).is_open refl (λ op. submits_so w e n b f (ap is_before_invalidating st) op) k
    by_stage b l f (InvalidatingWire own) st k = invalidating b own l f st (is_wait_done (unit_of w e) own) (unit_of w e).is_open refl refl k
    by_stage b l f QuietWire st k = absurd (cc (k))
    by_stage b l f LostWire st k = absurd (cc (k))

    by_binding :
        e < length w.parts → (o : Option BindingWire) → bound_at w e n ≡ o → target_by (unit_of w e) (cookie_at w n e) o ≡ Some (Cookie c)
        → distinct_count (◌==◌) (awaited_at e w.places) < 64
    by_binding l None f k = absurd (cc (k))
    by_binding l (Some b) f k = by_stage b l f b.stage refl k

    by_part :
        (z : Bool) → nat_lt e (length w.parts) ≡ z
        → (if z then target_by (unit_of w e) (cookie_at w n e) (bound_at w e n) else None) ≡ Some (Cookie c)
        → distinct_count (◌==◌) (awaited_at e w.places) < 64
    by_part false t k = absurd (cc (k))
    by_part true t k = by_binding (ltb-true e (length w.parts) t) (bound_at w e n) refl k

    by_table : (e < 8) ⊎ (8 ≤ e) → distinct_count (◌==◌) (awaited_at e w.places) < 64
    by_table (inl l) = by_part (nat_lt e (length w.parts)) refl (sym (tabulate_at 8 target e None l) ∙ h)
    by_table (inr l) = absurd (cc (sym (tabulate_past 8 target e None l) ∙ h))

-- the same, where the target is read from its place
pub room_for_each :
    (w : Wire) → IsSound w
    → (n : ℕ)
    → ((e : ℕ) → e < length w.parts → submits w n e ≡ true → has_room (unit_of w e) 2 ≡ true)
    → (e c : ℕ)
    → slice_get (targets_of w n) e ≡ Some (Some (Cookie c))
    → is_member (◌==◌) (cookies_in (map (target_there e) w.places)) c ≡ false
    → distinct_count (◌==◌) (cookies_in (map (target_there e) w.places)) < 64
room_for_each w s n room e c h = room_for_waits w s n room e c (get_or_from_slice_get (targets_of w n) e (Some (Cookie c)) None h)
