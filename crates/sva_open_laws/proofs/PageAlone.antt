-- In the world of a page nothing leads anywhere but by that page; and a world in which it is so is the world of that page.
use Rattle.std.proofs.Common.{◌≡◌, ℕ, Bool, true, false, Option, Some, None, List, [], ◌∷◌, map, refl, ap}
use Rattle.std.proofs.lemmas.Bool.{and_from, and_parts}
use Rattle.std.specs.Prelude.{◌==◌}
use Rattle.std.specs.List.{list_all}
use Rattle.sva_open.specs.declared.frames.Target.{Target}
use Rattle.sva_open.specs.declared.messages.Message.{Message}
use Rattle.sva_open.specs.declared.messages.Message.TheVariants as message
use Rattle.sva_open.specs.declared.messages.Sent.{Sent}
use Rattle.sva_open.specs.World.{Open, Part}
use Rattle.sva_open_laws.specs.Pages.{IsOnePage, is_at, is_alone_at, leads_by_sent, is_work_at, its_message, its_part, its_sent, its_world, leads_at}
use Rattle.sva_open_laws.specs.Pages.{leads_by, target_if}
use Rattle.sva_open_laws.proofs.Filters.{all_left, filter_all}

-- ---- lists

all_made : {A : Type 0} (q : A → Bool) (f : A → A) → ((x : A) → q (f x) ≡ true) → (xs : List A) → list_all q (map f xs) ≡ true
all_made q f so [] = refl
all_made q f so (x ∷ xs) = and_from (q (f x)) (list_all q (map f xs)) (so x) (all_made q f so xs)

made_same : {A : Type 0} (q : A → Bool) (f : A → A) → ((x : A) → q x ≡ true → f x ≡ x) → (xs : List A) → list_all q xs ≡ true → map f xs ≡ xs
made_same q f so [] h = refl
made_same q f so (x ∷ xs) h =
    let each = and_parts _ _ h in
    λ i. so x each.0 i ∷ made_same q f so xs each.1 i

-- ---- messages

leads_if : (page tag other : ℕ) (target : Option Target) (b : Bool) → (other == page) ≡ b
    → leads_by page (message.Completion tag other (target_if b target)) ≡ true
leads_if page tag other None true h = refl
leads_if page tag other (Some target) true h = h
leads_if page tag other target false h = refl

leads : (page : ℕ) (one : Message) → leads_by page (its_message page one) ≡ true
leads page (message.Completion tag other target) = leads_if page tag other target (other == page) refl
leads page (message.PageRequest request) = refl
leads page (message.Start pasid) = refl
leads page (message.Stop pasid) = refl
leads page message.Reset = refl
leads page (message.Invalidate itag scope) = refl
leads page (message.Response index fails filed) = refl
leads page (message.Request tag pasid other) = refl
leads page (message.Invalidated itag) = refl
leads page (message.Marker pasid) = refl
leads page (message.Status pasid) = refl
leads page message.ResetDone = refl
leads page (message.Barrier barrier) = refl
leads page (message.Passed barrier) = refl

none_if : (b : Bool) → target_if b None ≡ None
none_if true = refl
none_if false = refl

same_message : (page : ℕ) (one : Message) → leads_by page one ≡ true → its_message page one ≡ one
same_message page (message.Completion tag other None) h = ap (message.Completion tag other) (none_if (other == page))
same_message page (message.Completion tag other (Some target)) h = ap (λ (b : Bool). message.Completion tag other (target_if b (Some target))) h
same_message page (message.PageRequest request) h = refl
same_message page (message.Start pasid) h = refl
same_message page (message.Stop pasid) h = refl
same_message page message.Reset h = refl
same_message page (message.Invalidate itag scope) h = refl
same_message page (message.Response index fails filed) h = refl
same_message page (message.Request tag pasid other) h = refl
same_message page (message.Invalidated itag) h = refl
same_message page (message.Marker pasid) h = refl
same_message page (message.Status pasid) h = refl
same_message page message.ResetDone h = refl
same_message page (message.Barrier barrier) h = refl
same_message page (message.Passed barrier) h = refl

same_sent : (page : ℕ) (one : Sent) → leads_by_sent page one ≡ true → its_sent page one ≡ one
same_sent page one h = λ i. record one { message = same_message page one.message h i }

-- ---- a part

part_of : (page : ℕ) (part : Part) → is_alone_at page (its_part page part) ≡ true
part_of page part =
    and_from _ _ (all_left (is_at page) part.held)
    (and_from _ _ (all_left (is_work_at page) part.works)
    (and_from _ _ (all_made (leads_by_sent page) (its_sent page) (λ one. leads page one.message) part.flight) (all_left (is_at page) part.kept)))

same_part : (page : ℕ) (part : Part) → is_alone_at page part ≡ true → its_part page part ≡ part
same_part page part h =
    let a = and_parts (list_all (is_at page) part.held) _ h in
    let b = and_parts (list_all (is_work_at page) part.works) _ a.1 in
    let c = and_parts (list_all (leads_by_sent page) part.flight) _ b.1 in
    λ i. record part {
      held = filter_all (is_at page) part.held a.0 i;
      works = filter_all (is_work_at page) part.works b.0 i;
      flight = made_same (leads_by_sent page) (its_sent page) (same_sent page) part.flight c.0 i;
      kept = filter_all (is_at page) part.kept c.1 i;
    }

-- ---- the whole

same_world : (page : ℕ) (now : Open) → (list_all (leads_at page) now.mappings ≡ true) × (list_all (is_alone_at page) now.parts ≡ true)
    → its_world page now ≡ now
same_world page now h = λ i. record now {
  mappings = filter_all (leads_at page) now.mappings h.0 i;
  parts = made_same (is_alone_at page) (its_part page) (same_part page) now.parts h.1 i;
}

pub one_page : IsOnePage
one_page page now = (
  and_from _ _ (all_left (leads_at page) now.mappings) (all_made (is_alone_at page) (its_part page) (part_of page) now.parts),
  λ h. same_world page now (and_parts (list_all (leads_at page) now.mappings) _ h),
)
