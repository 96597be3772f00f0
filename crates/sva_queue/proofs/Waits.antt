-- A wait is done only behind all that was ahead of it.
use Rattle.std.proofs.Common.{◌≡◌, ◌≢◌, ℕ, zero, suc, ◌+◌, ◌<◌, ◌↔◌, ◌⊎◌, inl, inr, Bool, true, false, not, ◌&&◌, ◌||◌, Option, Some, None, List, [], ◌∷◌}
use Rattle.std.proofs.Common.{◌++◌, length, take, slice_get, if◌then◌else◌, refl, ap, sym, ◌∙◌, subst, append-nil, length-append, arith}
use Rattle.std.proofs.lemmas.Bool.Decides.{nat_tests}
use Rattle.sva_itags.specs.Tags.{IsBusy, lowest_free}
use Rattle.sva_itags.specs.declared.itags.Busy.{Busy}
use Rattle.sva_itags.specs.declared.itags.Busy.TheVariants.{Fresh}
use Rattle.sva_itags.proofs.CallerLemmas.{taken-get}
use Rattle.sva_queue.specs.declared.descriptors.Descriptor.{Descriptor}
use Rattle.sva_queue.specs.declared.descriptors.Descriptor.TheVariants.{Range, Pasid, Wait}
use Rattle.sva_queue.specs.declared.descriptors.Pumped.{Pumped}
use Rattle.sva_queue.specs.declared.descriptors.Pumped.TheVariants.{Issued, Done, Blocked, Idle}
use Rattle.sva_queue.specs.Queue.{Queue, empty, is_idle, is_complete, issued, answer_at, next_of, after_answer}
use Rattle.sva_queue.specs.Calls.{Call, after, after_all, leaving, taken_off, all_leaving, IsFreedDuring, IsOverSince, IsOver, IsSettled, IsInvalidation}
use Rattle.sva_queue.specs.Calls.{DoneBehind, IsWaitDone}
use Rattle.sva_queue.specs.Calls.Call.{Submit, Pump, Arrived, BeginReset, EndReset}
use Rattle.sva_queue.proofs.IdleTags.{idle_none, none_idle}

-- ---- when a wait is done
done_by : (i e : Bool) (drain : Bool) (c cookie : ℕ) → (if i && (not drain || e) then Done c else Blocked) ≡ Done cookie → (i ≡ true) × (c ≡ cookie)
    × (drain ≡ true → e ≡ true)
done_by true true drain c cookie h = (refl, grind (arith, nat_tests), λ _. refl)
done_by true false true c cookie h = absurd (cc)
done_by true false false c cookie h = (refl, grind (arith, nat_tests), λ k. absurd (cc))
done_by false e drain c cookie h = absurd (cc)

issued_not_done : (o : Option ℕ) (cookie : ℕ) → issued o ≢ Done cookie
issued_not_done None cookie = λ k. cc
issued_not_done (Some t) cookie = λ k. cc

head_done : (queue : Queue) (e : Bool) (cookie : ℕ) (ds : List Descriptor) → answer_at queue e ds ≡ Done cookie → (drain : Bool)
    × (slice_get ds 0 ≡ Some (Wait cookie drain)) × (is_idle queue.tags ≡ true) × (drain ≡ true → e ≡ true)
head_done queue e cookie [] h = absurd (cc)
head_done queue e cookie (Range pasid range ∷ ds) h = absurd (issued_not_done (lowest_free queue.tags) cookie h)
head_done queue e cookie (Pasid pasid ∷ ds) h = absurd (issued_not_done (lowest_free queue.tags) cookie h)
head_done queue e cookie (Wait c drain ∷ ds) h =
    let (idle, same, drained) = done_by (is_idle queue.tags) e drain c cookie h in
    (drain, ap (λ k. Some (Wait k drain)) same, idle, drained)

to_done : (i e drain : Bool) (cookie : ℕ) → i ≡ true → (drain ≡ true → e ≡ true) → (if i && (not drain || e) then Done cookie else Blocked) ≡ Done cookie
to_done true true true cookie h k = refl
to_done true true false cookie h k = refl
to_done true false true cookie h k = let no : false ≡ true = k refl in absurd (cc)
to_done true false false cookie h k = refl
to_done false e drain cookie h k = absurd (cc)

head_to_done : (queue : Queue) (e : Bool) (cookie : ℕ) (drain : Bool) (ds : List Descriptor) → slice_get ds 0 ≡ Some (Wait cookie drain)
    → is_idle queue.tags ≡ true → (drain ≡ true → e ≡ true) → answer_at queue e ds ≡ Done cookie
head_to_done queue e cookie drain [] h i k = absurd (cc)
head_to_done queue e cookie drain (d ∷ ds) h i k =
    let is_wait : d ≡ Wait cookie drain = cc in
    rw is_wait (to_done (is_idle queue.tags) e drain cookie i k)

pub done_exactly : (queue : Queue) (e : Bool) (cookie : ℕ) → (next_of queue e ≡ Done cookie) ↔ IsWaitDone queue e cookie
done_exactly queue e cookie = (
  λ h. let (drain, head, idle, drained) = head_done queue e cookie queue.descriptors h in
      (drain, head, λ tag (b, busy). idle_none queue.tags tag b idle busy, drained),
  λ (drain, head, none, drained). head_to_done queue e cookie drain queue.descriptors head (none_idle queue.tags (λ tag b busy. none tag (b, busy))) drained,
)

-- ---- a tag that is busy, and isn't in the end, was freed
is_or_not : (o : Option (Option Busy)) → ((b : Busy) × (o ≡ Some (Some b))) ⊎ ¬ ((b : Busy) × (o ≡ Some (Some b)))
is_or_not None = inr (λ (b, h). cc)
is_or_not (Some None) = inr (λ (b, h). cc)
is_or_not (Some (Some b)) = inl (b, refl)

freed_during : (calls : List Call) (queue : Queue) (tag : ℕ) → IsBusy queue.tags tag → ¬ IsBusy (after_all queue calls).tags tag
    → IsFreedDuring queue calls tag
freed_during [] queue tag busy freed = absurd (freed busy)
freed_during (call ∷ calls) queue tag busy freed =
    elim (is_or_not (slice_get (after queue call).tags tag)) [
      | inl still ↦
          let later : IsFreedDuring (after queue call) calls tag = freed_during calls (after queue call) tag still freed in
          record {
            early = call ∷ later.early;
            call = later.call;
            late = later.late;
            order = ap (λ cs. call ∷ cs) later.order;
            busy = later.busy;
            freed = later.freed;
          }
      | inr gone ↦ record { early = []; call = call; late = calls; order = refl; busy = busy; freed = gone }
    ]

-- ---- each invalidation that has left is over
issued_tag : (o : Option ℕ) (tag : ℕ) → issued o ≡ Issued tag → o ≡ Some tag
issued_tag None tag h = absurd (cc)
issued_tag (Some t) tag h = ap Some (cc)

-- the tag of what is issued is the lowest free one
pub issued_lowest : (queue : Queue) (e : Bool) (tag : ℕ) (ds : List Descriptor) → answer_at queue e ds ≡ Issued tag → lowest_free queue.tags ≡ Some tag
issued_lowest queue e tag [] h = absurd (cc)
issued_lowest queue e tag (Range pasid range ∷ ds) h = issued_tag (lowest_free queue.tags) tag h
issued_lowest queue e tag (Pasid pasid ∷ ds) h = issued_tag (lowest_free queue.tags) tag h
issued_lowest queue e tag (Wait cookie drain ∷ ds) h = absurd (no_issue (is_complete queue e drain) cookie tag h)
  where
    no_issue : (b : Bool) (cookie tag : ℕ) → (if b then Done cookie else Blocked) ≢ Issued tag
    no_issue true cookie tag = λ k. cc
    no_issue false cookie tag = λ k. cc

-- the first descriptor is the one that a pump takes off
take_one : (ds : List Descriptor) (n : ℕ) (d : Descriptor) → slice_get (take 1 ds) n ≡ Some d → slice_get ds 0 ≡ Some d
take_one [] n d h = absurd (cc)
take_one (x ∷ ds) zero d h = h
take_one (x ∷ ds) (suc n) d h = absurd (cc)

over_since : (answer : Pumped) (queue : Queue) (e : Bool) (calls : List Call) (n : ℕ) (d : Descriptor) → next_of queue e ≡ answer
    → slice_get (taken_off answer queue.descriptors) n ≡ Some d → IsInvalidation d → is_idle (after_all (after_answer answer queue) calls).tags
    ≡ true → IsOverSince answer (after_answer answer queue) calls
over_since (Issued tag) queue e calls n d is h inv idle =
    let lowest : lowest_free queue.tags ≡ Some tag = issued_lowest queue e tag queue.descriptors is in
    let now : Queue = after_answer (Issued tag) queue in
    freed_during calls now tag (Fresh, taken-get queue.tags tag lowest) (λ (b, busy). idle_none (after_all now calls).tags tag b idle busy)
over_since (Done cookie) queue e calls n d is h inv idle =
    let (drain, head, _, _) = head_done queue e cookie queue.descriptors is in
    let same : d ≡ Wait cookie drain = some_same d (Wait cookie drain) (sym (take_one queue.descriptors n d h) ∙ head) in
    absurd (subst IsInvalidation same inv)
  where
    some_same : (a b : Descriptor) → Some a ≡ Some b → a ≡ b
    some_same a b k = cc
over_since Blocked queue e calls n d is h inv idle = absurd (cc)
over_since Idle queue e calls n d is h inv idle = absurd (cc)

over_at : (call : Call) (queue : Queue) (calls : List Call) (n : ℕ) (d : Descriptor) → slice_get (leaving queue call) n ≡ Some d → IsInvalidation d
    → is_idle (after_all (after queue call) calls).tags ≡ true → IsOver queue call calls
over_at (Submit more) queue calls n d h inv idle = absurd (cc)
over_at (Pump e) queue calls n d h inv idle = over_since (next_of queue e) queue e calls n d refl h inv idle
over_at (Arrived v c) queue calls n d h inv idle = absurd (cc)
over_at BeginReset queue calls n d h inv idle = tt
over_at EndReset queue calls n d h inv idle = absurd (cc)

-- a place of two lists one after the other
get-append : (xs ys : List Descriptor) (n : ℕ) (d : Descriptor) → slice_get (xs ++ ys) n ≡ Some d → ((n < length xs) × (slice_get xs n ≡ Some d))
    ⊎ ((m : ℕ) × (n ≡ length xs + m) × (slice_get ys m ≡ Some d))
get-append [] ys n d h = inr (n, omega arith, h)
get-append (x ∷ xs) ys zero d h = inl (omega arith, h)
get-append (x ∷ xs) ys (suc n) d h =
    elim (get-append xs ys n d h) [ inl here ↦ inl (omega (arith, here.0), here.1) | inr there ↦ inr (there.0, omega (arith, there.1), there.2) ]

settled : (calls : List Call) (queue : Queue) (n : ℕ) (d : Descriptor) → slice_get (all_leaving queue calls) n ≡ Some d → IsInvalidation d
    → is_idle (after_all queue calls).tags ≡ true → IsSettled queue calls n
settled [] queue n d h inv idle = absurd (cc)
settled (call ∷ calls) queue n d h inv idle =
    elim (get-append (leaving queue call) (all_leaving (after queue call) calls) n d h) [
      | inl here ↦
          record {
            early = [];
            call = call;
            late = calls;
            order = refl;
            above = omega arith;
            below = rw append-nil here.0;
            over = over_at call queue calls n d here.1 inv idle;
          }
      | inr there ↦
          let later : IsSettled (after queue call) calls there.0 = settled calls (after queue call) there.0 d there.2 inv idle in
          record {
            early = call ∷ later.early;
            call = later.call;
            late = later.late;
            order = ap (λ cs. call ∷ cs) later.order;
            above = omega (arith, length-append (leaving queue call) (all_leaving (after queue call) later.early), later.above, there.1);
            below = omega (arith, length-append (leaving queue call) (all_leaving (after queue call) (later.early ++ later.call ∷ [])), later.below, there.1);
            over = later.over;
          }
    ]

pub done_behind : DoneBehind
done_behind calls e cookie n d is h inv =
    let (drain, head, idle, drained) = head_done (after_all empty calls) e cookie (after_all empty calls).descriptors is in
    settled calls empty n d h inv idle
