-- What it says of an endpoint that a test has given a step.
use Rattle.std.proofs.Common.{◌≡◌, ◌<◌, ap, sym, ◌∙◌, ℕ, Bool, true, false, arith}
use Rattle.std.specs.Prelude.{if◌then◌else◌, is_ok, not, nat_lt, Some, None, List, slice_set}
use Rattle.std.specs.List.{position_or_len}
use Rattle.std.proofs.lemmas.Bool.Decides.{nat_tests}
use Rattle.sva_endpoint.specs.declared.request_tags.RequestTag.{RequestTag}
use Rattle.sva_endpoint.specs.declared.request_tags.RequestTag.TheVariants.{Out}
use Rattle.sva_endpoint.specs.declared.use_slots.UseSlot.{UseSlot}
use Rattle.sva_endpoint.specs.declared.use_slots.UseSlot.TheVariants.{Running}
use Rattle.sva_endpoint.specs.Groups.{is_free, outstanding}
use Rattle.sva_endpoint.specs.declared.permitted.Asking.{Asking}
use Rattle.sva_endpoint.specs.declared.permitted.Using.{Using}
use Rattle.sva_endpoint.specs.declared.permitted.Faulting.{Faulting}
use Rattle.sva_endpoint.specs.Tables.{Tables}
use Rattle.sva_endpoint.specs.Steps.{refusals_of_ask, MayAsk, after_ask, refusals_of_use, MayBeginUse, after_begin_use}
use Rattle.sva_endpoint.specs.Steps.{refusals_of_fault, MayFault, fault_of, index_for}
use Rattle.sva_endpoint.proofs.CallFacts.{are_clear, given}

-- the tag of a request is the lowest free one
pub asked : (s now : Tables) (p : Asking) (tags : List RequestTag) → s ≡ now → MayAsk now p → tags ≡ slice_set s.tags p.tag (Out p.pasid p.page)
    → record s { tags = tags } ≡ after_ask now p.pasid p.page
asked s now p tags same may taken =
    (λ i. record s { tags = taken i })
    ∙ (λ i. record (same i) { tags = slice_set (same i).tags p.tag (Out p.pasid p.page) })
    ∙ ap (λ (a : Asking). record now { tags = slice_set now.tags a.tag (Out p.pasid p.page) }) (sym (given _ p (refusals_of_ask now p.pasid p.page) may.0))

-- the slot of a use is the lowest free one, and its translation is held
pub begun : (s now : Tables) (p : Using) (uses : List UseSlot) → s ≡ now → MayBeginUse now p → uses ≡ slice_set s.uses p.slot (Running p.begun)
    → record s { uses = uses } ≡ after_begin_use now p.begun.pasid p.begun.page
begun s now p uses same may runs =
    (λ i. record s { uses = runs i })
    ∙ (λ i. record (same i) { uses = slice_set (same i).uses p.slot (Running p.begun) })
    ∙ ap (λ (a : Using). record now { uses = slice_set now.uses a.slot (Running a.begun) })
    (sym (given _ p (refusals_of_use now p.begun.pasid p.begun.page false) may.0))

-- the index of a page request is that of its group, or the lowest free one
index_is : (s : Tables) (p : Faulting) → MayFault s p → p.request.index ≡ index_for s (fault_of p).group
index_is s p may = ap (λ (a : Faulting). a.request.index) (sym (given _ p (refusals_of_fault s (fault_of p)) may.0))

pub begins_lowest : (s now : Tables) (p : Faulting) → s ≡ now → MayFault now p → p.begins ≡ true → p.request.index ≡ position_or_len is_free s.groups
begins_lowest s now p same may begins =
    index_is now p may
    ∙ ap (λ (b : Bool). index_for now (if b then None else Some p.request.index)) begins
    ∙ ap (λ (t : Tables). position_or_len is_free t.groups) (sym same)

fewer : (n : ℕ) → not (nat_lt n 32) ≡ false → n < 32
fewer n h = grind (arith, nat_tests)

-- fewer than 32 page requests are outstanding
pub has_credit : (s now : Tables) (p : Faulting) → s ≡ now → MayFault now p → outstanding s.groups < 32
has_credit s now p same may =
    let clear = are_clear (refusals_of_fault now (fault_of p)) _ (ap is_ok may.0) in
    fewer (outstanding s.groups) (ap (λ (t : Tables). not (nat_lt (outstanding t.groups) 32)) same ∙ clear.1.1.0)
