-- What becomes of the head of the queue, as it is seen.
use Rattle.std.proofs.Common.{◌≡◌, ◌↔◌, ℕ, suc, ◌+◌, Bool, true, false, Option, Some, None, List, [], ◌∷◌, length, map, refl, ap, ap₂, sym, ◌∙◌, arith}
use Rattle.std.specs.Prelude.{◌&&◌, ◌||◌, not, ◌==◌, IsTrue, if◌then◌else◌, slice_get, slice_set}
use Rattle.std.proofs.lemmas.List.{drop-map}
use Rattle.std.proofs.lemmas.Bool.Decides.{nat_tests}
use Rattle.sva_itags.specs.Tags.{lowest_free, with_fresh}
use Rattle.sva_msg.specs.declared.messages.PageRequest.{PageRequest}
use Rattle.sva_queue.specs.declared.descriptors.Descriptor.{Descriptor}
use Rattle.sva_queue.specs.declared.descriptors.Descriptor.TheVariants.{Range, Pasid, Wait}
use Rattle.sva_queue.specs.declared.descriptors.Pumped.{Pumped}
use Rattle.sva_queue.specs.declared.descriptors.Pumped.TheVariants as was
use Rattle.sva_queue.specs.Queue.{Queue, is_complete, answer_at, next_of as answer_of, after_answer}
use Rattle.sva_queue.specs.Heads.{sending_of, send_next, next_by, look_of, IsAnswered}
use Rattle.sva_queue.proofs.Looked.{range_looked}
use Rattle.sva_queue.proofs.Waits.{issued_lowest}
use Rattle.sva_model.specs.Wire.{DeviceWire, HostGroupWire, Descriptor as DescriptorWire}
use Rattle.sva_model.specs.Wire.Descriptor.{RangeDescriptor, PasidDescriptor, WaitDescriptor}
use Rattle.sva_labels.specs.Outcomes.{pump_result, send_result, wait_result}
use Rattle.sva_msg.specs.declared.extents.Extent.{Extent}
use Rattle.sva_msg.specs.declared.extents.Extent.TheVariants as extent
use Rattle.sva_queue.specs.declared.heads.Sending.{Sending}
use Rattle.sva_queue.specs.declared.heads.Next.TheVariants.{Send, Pass}
use Rattle.sva_iommu.specs.Seen.{UnitSeen, descriptor_seen, unit_seen, seen, with_unit}
use Rattle.sva_msg.specs.Seen.{page_request_seen}
use Rattle.sva_iommu.specs.Pumping.{pass_next, may_pass, next_at, next_of, pumped, at_endpoint, IsPump, unit_sent}
use Rattle.sva_msg.specs.Seen.{extent_seen}
use Rattle.sva_iommu.specs.Pumping.{unit_passed}
use Rattle.sva_iommu.proofs.Places.{places_seen, lowest_seen, idle_seen, fresh_seen}

-- It is what the definitions by labels do.

send_is : (e t : ℕ) (extent : Extent) (o : Option ℕ) → send_result e t (extent_seen extent) o ≡ pumped e (send_next t extent o)
send_is e t extent None = refl
send_is e t extent (Some itag) = refl

wait_is : (e cookie : ℕ) (b : Bool) → wait_result e cookie b ≡ pumped e (pass_next cookie b)
wait_is e cookie true = refl
wait_is e cookie false = refl

pump_at : (s : UnitSeen) (queue : List DescriptorWire) (e : ℕ) (device : DeviceWire) (groups : List HostGroupWire)
    → pump_result (at_endpoint s device groups) e queue ≡ pumped e (next_at s queue)
pump_at s [] e device groups = refl
pump_at s (RangeDescriptor t range ∷ queue) e device groups = send_is e t (extent.Pages range) _
pump_at s (PasidDescriptor t ∷ queue) e device groups = send_is e t extent.All _
pump_at s (WaitDescriptor cookie drain ∷ queue) e device groups = wait_is e cookie (may_pass s drain)

pub pump_is : (s : UnitSeen) → IsPump s (next_of s)
pump_is s = pump_at s s.unit.queue

-- It is what the queue does.

-- whether no page request waits
pub empty_seen : (b : Bool) (requests : List PageRequest) → IsTrue b ↔ (requests ≡ []) → b ≡ (length (map page_request_seen requests) == 0)
empty_seen true [] h = refl
empty_seen false [] h = absurd (let none = h.1 refl in cc)
empty_seen true (r ∷ requests) h = absurd (let none = h.0 refl in cc)
empty_seen false (r ∷ requests) h = grind (arith, nat_tests)

wait_by : (cookie : ℕ) (head : Option Descriptor) (b : Bool) → pass_next cookie b ≡ next_by (if b then was.Done cookie else was.Blocked) head
wait_by cookie head true = refl
wait_by cookie head false = refl

heads_at : (q : Queue) (requests : List PageRequest) (e : Bool) (ds : List Descriptor) → e ≡ (length (map page_request_seen requests) == 0)
    → next_at (seen q requests) (map descriptor_seen ds) ≡ next_by (answer_at q e ds) (slice_get ds 0)
heads_at q requests e [] empty = refl
heads_at q requests e (Range t range ∷ ds) empty =
    ap (send_next t (extent.Pages range)) (lowest_seen q.tags) ∙ range_looked (Range t range) t (extent.Pages range) (lowest_free q.tags) (λ itag. refl)
heads_at q requests e (Pasid t ∷ ds) empty =
    ap (send_next t extent.All) (lowest_seen q.tags) ∙ range_looked (Pasid t) t extent.All (lowest_free q.tags) (λ itag. refl)
heads_at q requests e (Wait cookie drain ∷ ds) empty =
    ap (pass_next cookie) (ap₂ (λ idle none. idle && (not drain || none)) (idle_seen q.tags) (sym empty))
    ∙ wait_by cookie (Some (Wait cookie drain)) (is_complete q e drain)

pub heads : (q : Queue) (requests : List PageRequest) (e : Bool) → e ≡ (length (map page_request_seen requests) == 0)
    → next_of (seen q requests) ≡ next_by (answer_of q e) (slice_get q.descriptors 0)
heads q requests e empty = heads_at q requests e q.descriptors empty

-- What is left of it.

-- the queue once its head is sent
after_issue : (q : Queue) (requests : List PageRequest) (t : ℕ) → lowest_free q.tags ≡ Some t
    → seen (after_answer (was.Issued t) q) requests ≡ with_unit (seen q requests) (unit_sent (unit_seen q) t)
after_issue q requests t lowest =
    let taken : places_seen (with_fresh (lowest_free q.tags) q.tags) ≡ slice_set (places_seen q.tags) t _ =
    ap (λ o. places_seen (with_fresh o q.tags)) lowest ∙ fresh_seen q.tags t in
    let rest = sym (drop-map descriptor_seen 1 q.descriptors) in
    λ i. record {
      unit = record { is_open = q.is_open; queue = rest i; busy = taken i; front = q.front; waits_end = q.back };
      page_queue =
          map page_request_seen requests;
    }

pub passed : (q : Queue) (requests : List PageRequest) (cookie : ℕ)
    → seen (after_answer (was.Done cookie) q) requests ≡ with_unit (seen q requests) (unit_passed (unit_seen q) cookie)
passed q requests cookie =
    let next : cookie + 1 ≡ suc cookie = omega arith in
    let rest = sym (drop-map descriptor_seen 1 q.descriptors) in
    λ i. record {
      unit = record { is_open = q.is_open; queue = rest i; busy = places_seen q.tags; front = next i; waits_end = q.back };
      page_queue =
          map page_request_seen requests;
    }

-- what the queue answers where that becomes of its head
issued : (answer : Pumped) (head : Option Descriptor) (s : Sending) → next_by answer head ≡ Send s → answer ≡ was.Issued s.itag
issued was.Idle head s h = absurd (cc)
issued was.Blocked head s h = absurd (cc)
issued (was.Done cookie) head s h = absurd (cc)
issued (was.Issued t) None s h = absurd (cc)
issued (was.Issued t) (Some order) s h = let same : sending_of t order ≡ s = cc in ap (λ (x : Sending). was.Issued x.itag) same

done : (answer : Pumped) (head : Option Descriptor) (cookie : ℕ) → next_by answer head ≡ Pass cookie → answer ≡ was.Done cookie
done was.Idle head cookie h = absurd (cc)
done was.Blocked head cookie h = absurd (cc)
done (was.Issued t) None cookie h = absurd (cc)
done (was.Issued t) (Some order) cookie h = absurd (cc)
done (was.Done c) head cookie h = cc

-- whether no page request waits, by which the queue decides
abbrev none_waits : List PageRequest → Bool
none_waits requests = length (map page_request_seen requests) == 0

pub may_send : (q : Queue) (requests : List PageRequest) (s : Sending) → next_of (seen q requests) ≡ Send s → IsAnswered q (was.Issued s.itag)
may_send q requests s is = (
  none_waits requests,
  issued (answer_of q (none_waits requests)) (slice_get q.descriptors 0) s (sym (heads q requests (none_waits requests) refl) ∙ is),
)

pub may_pass_on : (q : Queue) (requests : List PageRequest) (cookie : ℕ) → next_of (seen q requests) ≡ Pass cookie → IsAnswered q (was.Done cookie)
may_pass_on q requests cookie is = (
  none_waits requests,
  done (answer_of q (none_waits requests)) (slice_get q.descriptors 0) cookie (sym (heads q requests (none_waits requests) refl) ∙ is),
)

-- the head is what was looked at
pub looked : (q : Queue) (requests : List PageRequest) (e : Bool) → e ≡ (length (map page_request_seen requests) == 0)
    → look_of q e ≡ next_of (seen q requests)
looked q requests e empty = sym (heads q requests e empty)

pub sent : (q : Queue) (requests : List PageRequest) (t : ℕ) → IsAnswered q (was.Issued t)
    → seen (after_answer (was.Issued t) q) requests ≡ with_unit (seen q requests) (unit_sent (unit_seen q) t)
sent q requests t (e, is) = after_issue q requests t (issued_lowest q e t q.descriptors is)
