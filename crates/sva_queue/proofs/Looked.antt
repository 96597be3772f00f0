-- What becomes of the head of a queue, and what `pump` answers of it.
use Rattle.std.proofs.Common.{◌≡◌, ℕ, Bool, true, false, Option, Some, None, List, [], ◌∷◌, refl, ap, sym, ◌∙◌}
use Rattle.std.specs.Prelude.{if◌then◌else◌, slice_get}
use Rattle.sva_itags.specs.Tags.{lowest_free}
use Rattle.sva_msg.specs.declared.extents.Extent.{Extent}
use Rattle.sva_queue.specs.declared.descriptors.Descriptor.{Descriptor}
use Rattle.sva_queue.specs.declared.descriptors.Descriptor.TheVariants.{Range, Pasid, Wait}
use Rattle.sva_queue.specs.declared.descriptors.Pumped.{Pumped}
use Rattle.sva_queue.specs.declared.descriptors.Pumped.TheVariants.{Done, Blocked}
use Rattle.sva_queue.specs.declared.heads.Next.{Next}
use Rattle.sva_queue.specs.declared.heads.Next.TheVariants as next
use Rattle.sva_queue.specs.declared.heads.Sending.{Sending}
use Rattle.sva_queue.specs.Queue.{Queue, issued, answer_at, next_of, is_complete, after_answer, pumped}
use Rattle.sva_queue.specs.Heads.{send_next, sending_of, next_by, look_of, pumped_of, IsAnswered}

-- The head is looked at.

pub range_looked : (order : Descriptor) (pasid : ℕ) (extent : Extent) (o : Option ℕ)
    → ((itag : ℕ) → sending_of itag order ≡ record { itag = itag; pasid = pasid; extent = extent })
    → send_next pasid extent o ≡ next_by (issued o) (Some order)
range_looked order pasid extent None same = refl
range_looked order pasid extent (Some itag) same = ap (λ (s : Sending). next.Send s) (sym (same itag))

pub wait_looked : (cookie : ℕ) (head : Option Descriptor) (b : Bool) → (if b then next.Pass cookie else next.Blocked)
    ≡ next_by (if b then Done cookie else Blocked) head
wait_looked cookie head true = refl
wait_looked cookie head false = refl

-- What is answered of it.

by_tag : (order : Descriptor) (o : Option ℕ) → pumped_of (next_by (issued o) (Some order)) ≡ issued o
by_tag order None = refl
by_tag order (Some itag) = refl

by_wait : (cookie : ℕ) (head : Option Descriptor) (b : Bool) → pumped_of (next_by (if b then Done cookie else Blocked) head)
    ≡ (if b then Done cookie else Blocked)
by_wait cookie head true = refl
by_wait cookie head false = refl

answered_at : (queue : Queue) (e : Bool) (ds : List Descriptor) → pumped_of (next_by (answer_at queue e ds) (slice_get ds 0)) ≡ answer_at queue e ds
answered_at queue e [] = refl
answered_at queue e (Range pasid range ∷ ds) = by_tag (Range pasid range) (lowest_free queue.tags)
answered_at queue e (Pasid pasid ∷ ds) = by_tag (Pasid pasid) (lowest_free queue.tags)
answered_at queue e (Wait cookie drain ∷ ds) = by_wait cookie (Some (Wait cookie drain)) (is_complete queue e drain)

pub answered : (queue : Queue) (e : Bool) → pumped_of (look_of queue e) ≡ next_of queue e
answered queue e = answered_at queue e queue.descriptors

-- so `pump` answers it, and does it
pub is_answered : (queue : Queue) (e : Bool) (n : Next) → n ≡ look_of queue e → IsAnswered queue (pumped_of n)
is_answered queue e n is = (e, sym (answered queue e) ∙ ap pumped_of (sym is))

pub does : (queue : Queue) (e : Bool) (n : Next) → n ≡ look_of queue e → after_answer (pumped_of n) queue ≡ pumped e queue
does queue e n is = ap (λ (a : Pumped). after_answer a queue) (ap pumped_of is ∙ answered queue e)
