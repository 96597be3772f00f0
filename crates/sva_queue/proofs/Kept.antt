-- The order of the cookies is kept by each call that is permitted.
use Rattle.std.proofs.Common.{◌≡◌, ◌≢◌, ℕ, ◌+◌, ◌^◌, ◌≤◌, Bool, true, false, Option, None, Some, List, [], ◌∷◌, ◌++◌, length, drop, nat_le, if◌then◌else◌}
use Rattle.std.proofs.Common.{refl, ap, sym, ◌∙◌, subst, arith}
use Rattle.std.proofs.lemmas.List.Elements.{recursion_from_All}
use Rattle.sva_itags.specs.Tags.{all_free, lowest_free}
use Rattle.sva_queue.specs.declared.descriptors.Descriptor.{Descriptor}
use Rattle.sva_queue.specs.declared.descriptors.Descriptor.TheVariants.{Range, Pasid, Wait}
use Rattle.sva_queue.specs.declared.descriptors.Pumped.{Pumped}
use Rattle.sva_queue.specs.declared.descriptors.Pumped.TheVariants.{Issued, Done, Blocked, Idle}
use Rattle.sva_queue.specs.Cookies.{cookies_of, AreRising, number_after, HasNumber}
use Rattle.sva_queue.specs.Queue.{Queue, InOrder, empty, with_more, issued, answer_at, next_of, after_answer, reset_begun, reset_ended, is_complete}
use Rattle.sva_queue.specs.Calls.{Call, after, after_all, MaySubmit, IsPermitted, ArePermitted}
use Rattle.sva_queue.specs.Calls.Call.{Submit, Pump, Arrived, BeginReset, EndReset}
use Rattle.sva_queue.proofs.Cookies.{rising-append, rising-le, number_after-append, number_after-fits}

-- ---- a submission
pub more-in_order : (queue : Queue) (more : List Descriptor) → MaySubmit queue more → InOrder queue → InOrder (with_more more queue)
more-in_order queue more may o =
    let back : queue.back ≡ number_after queue.front queue.descriptors = o.at_open may.opened in
    let same : number_after queue.back more ≡ number_after queue.front (queue.descriptors ++ more) =
    ap (λ n. number_after n more) back ∙ sym (number_after-append queue.descriptors more queue.front) in
    let rising : AreRising queue.front (queue.descriptors ++ more) = rising-append queue.descriptors more queue.front o.rising may.rising in
    record {
      rising = rising;
      at_open = λ _. same;
      in_reset = λ closed. absurd (cc may.opened);
      reached = omega (arith, same, rising-le (queue.descriptors ++ more) queue.front rising);
      limit = number_after-fits more queue.back (recursion_from_All HasNumber more may.numbers) o.limit;
    }

pub submit-in_order : (queue : Queue) (more : List Descriptor) (fits : Bool) → MaySubmit queue more → InOrder queue
    → InOrder (if fits then with_more more queue else queue)
submit-in_order queue more true may o = more-in_order queue more may o
submit-in_order queue more false may o = o

-- ---- a pump, by what is queued
pub issued_not_done : (o : Option ℕ) (cookie : ℕ) → issued o ≢ Done cookie
issued_not_done None cookie = λ k. cc
issued_not_done (Some t) cookie = λ k. cc

pub wait_not_issued : (b : Bool) (cookie tag : ℕ) → (if b then Done cookie else Blocked) ≢ Issued tag
wait_not_issued true cookie tag = λ k. cc
wait_not_issued false cookie tag = λ k. cc

pub wait_done : (b : Bool) (c cookie : ℕ) → (if b then Done c else Blocked) ≡ Done cookie → c ≡ cookie
wait_done true c cookie h = cc
wait_done false c cookie h = absurd (cc)

-- An invalidation at the head has no cookie.
pub issued-cookies : (queue : Queue) (e : Bool) (tag first : ℕ) (ds : List Descriptor) → answer_at queue e ds ≡ Issued tag
    → (AreRising first ds → AreRising first (drop 1 ds)) × (number_after first (drop 1 ds) ≡ number_after first ds) × (cookies_of (drop 1 ds) ≡ cookies_of ds)
issued-cookies queue e tag first [] h = absurd (cc)
issued-cookies queue e tag first (Range pasid range ∷ ds) h = (λ r. r, refl, refl)
issued-cookies queue e tag first (Pasid pasid ∷ ds) h = (λ r. r, refl, refl)
issued-cookies queue e tag first (Wait c drain ∷ ds) h = absurd (wait_not_issued (is_complete queue e drain) c tag h)

-- The cookie of a wait that is done is the first of those that are queued.
pub done-cookies : (queue : Queue) (e : Bool) (cookie first : ℕ) (ds : List Descriptor) → answer_at queue e ds ≡ Done cookie
    → (AreRising first ds → (first ≤ cookie) × AreRising (cookie + 1) (drop 1 ds)) × (number_after (cookie + 1) (drop 1 ds) ≡ number_after first ds)
    × (cookies_of ds ≡ cookie ∷ cookies_of (drop 1 ds))
done-cookies queue e cookie first [] h = absurd (cc)
done-cookies queue e cookie first (Range pasid range ∷ ds) h = absurd (issued_not_done (lowest_free queue.tags) cookie h)
done-cookies queue e cookie first (Pasid pasid ∷ ds) h = absurd (issued_not_done (lowest_free queue.tags) cookie h)
done-cookies queue e cookie first (Wait c drain ∷ ds) h =
    let same : c ≡ cookie = wait_done (is_complete queue e drain) c cookie h in
    subst (λ k. (((first ≤ c) × AreRising (c + 1) ds) → (first ≤ k) × AreRising (k + 1) ds) × (number_after (k + 1) ds ≡ number_after (c + 1) ds)
    × (c ∷ cookies_of ds ≡ k ∷ cookies_of ds)) same (λ r. r, refl, refl)

-- what is answered where nothing is queued
pub empty-idle : (queue : Queue) (e : Bool) (ds : List Descriptor) → ds ≡ [] → answer_at queue e ds ≡ Idle
empty-idle queue e [] h = refl
empty-idle queue e (d ∷ ds) h = absurd (cc)

pub pump-in_order : (answer : Pumped) (queue : Queue) (e : Bool) → next_of queue e ≡ answer → InOrder queue → InOrder (after_answer answer queue)
pump-in_order (Issued tag) queue e is o =
    let (rising, number, _) = issued-cookies queue e tag queue.front queue.descriptors is in
    record {
      rising = rising o.rising;
      at_open = λ opened. o.at_open opened ∙ sym number;
      in_reset = λ closed. ap (drop 1) (o.in_reset closed);
      reached = o.reached;
      limit = o.limit;
    }
pump-in_order (Done cookie) queue e is o =
    let (rising, number, _) = done-cookies queue e cookie queue.front queue.descriptors is in
    record {
      rising = (rising o.rising).1;
      at_open = λ opened. o.at_open opened ∙ sym number;
      in_reset = λ closed. ap (drop 1) (o.in_reset closed);
      reached = done_reached queue.is_open refl;
      limit = o.limit;
    }
  where
    done_reached : (b : Bool) → b ≡ queue.is_open → cookie + 1 ≤ queue.back
    done_reached true same =
        let (rising, number, _) = done-cookies queue e cookie queue.front queue.descriptors is in
        let back : queue.back ≡ number_after (cookie + 1) (drop 1 queue.descriptors) = o.at_open (sym same) ∙ sym number in
        omega (arith, back, rising-le (drop 1 queue.descriptors) (cookie + 1) (rising o.rising).1)
    done_reached false same =
        let idle : next_of queue e ≡ Idle = empty-idle queue e queue.descriptors (o.in_reset (sym same)) in
        absurd (cc)
pump-in_order Blocked queue e is o = o
pump-in_order Idle queue e is o = o

-- ---- the beginning and the end of a reset
pub begun-in_order : (queue : Queue) → InOrder queue → InOrder (reset_begun queue)
begun-in_order queue o = record { rising = tt; at_open = λ k. absurd (cc); in_reset = λ _. refl; reached = o.reached; limit = o.limit }

ended_by : (queue : Queue) (b : Bool) → b ≡ queue.is_open → InOrder queue
    → InOrder (record queue { is_open = true; tags = all_free; front = if b then queue.front else queue.back })
ended_by queue true same o =
    record { rising = o.rising; at_open = λ _. o.at_open (sym same); in_reset = λ k. absurd (cc); reached = o.reached; limit = o.limit }
ended_by queue false same o =
    let none : queue.descriptors ≡ [] = o.in_reset (sym same) in
    record {
      rising = subst (AreRising queue.back) (sym none) tt;
      at_open = λ _. ap (number_after queue.back) (sym none);
      in_reset = λ k. absurd (cc);
      reached = omega arith;
      limit = o.limit;
    }

pub ended-in_order : (queue : Queue) → InOrder queue → InOrder (reset_ended queue)
ended-in_order queue o = ended_by queue queue.is_open refl o

-- ---- each call, and all calls
pub call-in_order : (call : Call) (queue : Queue) → IsPermitted queue call → InOrder queue → InOrder (after queue call)
call-in_order (Submit more) queue p o = submit-in_order queue more (nat_le (length queue.descriptors + length more) 64) p o
call-in_order (Pump e) queue p o = pump-in_order (next_of queue e) queue e refl o
call-in_order (Arrived v n) queue p o = record { rising = o.rising; at_open = o.at_open; in_reset = o.in_reset; reached = o.reached; limit = o.limit }
call-in_order BeginReset queue p o = begun-in_order queue o
call-in_order EndReset queue p o = ended-in_order queue o

pub empty-in_order : InOrder empty
empty-in_order = record { rising = tt; at_open = λ _. refl; in_reset = λ k. absurd (cc); reached = omega arith; limit = omega arith }

pub all-in_order : (calls : List Call) (queue : Queue) → ArePermitted queue calls → InOrder queue → InOrder (after_all queue calls)
all-in_order [] queue p o = o
all-in_order (call ∷ calls) queue p o = all-in_order calls (after queue call) p.1 (call-in_order call queue p.0 o)

-- the number after the cookie of a wait that is done
pub done-fits : (queue : Queue) (e : Bool) (cookie : ℕ) → next_of queue e ≡ Done cookie → InOrder queue → cookie + 1 ≤ 2 ^ 63
done-fits queue e cookie is o =
    let next : InOrder (after_answer (Done cookie) queue) = pump-in_order (Done cookie) queue e is o in
    omega (arith, next.reached, next.limit)
