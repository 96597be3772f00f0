-- What stays at an endpoint whose page requests are disabled.
use Rattle.std.proofs.Common.{◌≡◌, ◌≢◌, ◌⊎◌, ◌∙◌, inl, inr, ap, arith, refl, subst, sym, ℕ, zero, suc, ◌<◌, true, false, Bool}
use Rattle.std.proofs.Common.{List, [], ◌∷◌, Option, Some, None, length, map}
use Rattle.std.proofs.lemmas.Option.{same_Some, slice_get-map, slice_get_within}
use Rattle.std.specs.Prelude.{◌==◌, ◌||◌, option_map, slice_get, slice_index_or, slice_set, if◌then◌else◌}
use Rattle.sva_labels.proofs.Words.{ℕ_cases}
use Rattle.sva_labels.proofs.Lists.{tabulate_at, tabulate_length}
use Rattle.sva_model.specs.Message.{Code}
use Rattle.sva_model.specs.State.{GroupState, PasidState}
use Rattle.sva_model.specs.State.PasidState.{Off, On, Ending}
use Rattle.sva_model.specs.State.GroupState.{Collecting, Awaiting, Stale, Closed}
use Rattle.sva_model.specs.StateChanges.{disables, stale_if}
use Rattle.sva_model.specs.States.{is_collecting}
use Rattle.sva_model.specs.Wire.{DeviceWire, EndpointWire, GroupWire, Wire}
use Rattle.sva_model.specs.Words.{tabulate}
use Rattle.sva_labels.specs.Finding.{device_of, idle, part_of, submits}
use Rattle.sva_labels.specs.Moves.{Move, moved, part_unmapped, stale_of, with_part, with_pasid}
use Rattle.sva_why.specs.Stuck.{IsOther, IsStuck, StaysByMoves}

-- ---- Places of lists

set_own : {A : Type 0} (xs : List A) (k : ℕ) (x y : A) → slice_get xs k ≡ Some x → slice_get (slice_set xs k y) k ≡ Some y
set_own [] k x y there = absurd (cc there)
set_own (z ∷ xs) zero x y there = refl
set_own (z ∷ xs) (suc k) x y there = set_own xs k x y there

set_other : {A : Type 0} (xs : List A) (at k : ℕ) (y : A) → at ≢ k → slice_get (slice_set xs at y) k ≡ slice_get xs k
set_other [] at k y apart = refl
set_other (x ∷ xs) zero zero y apart = absurd (apart refl)
set_other (x ∷ xs) zero (suc k) y apart = refl
set_other (x ∷ xs) (suc at) zero y apart = refl
set_other (x ∷ xs) (suc at) (suc k) y apart = set_other xs at k y (λ same. apart (ap suc same))

place_is : {A : Type 0} (xs : List A) (k : ℕ) (x d : A) → slice_get xs k ≡ Some x → slice_index_or xs k d ≡ x
place_is [] k x d there = absurd (cc there)
place_is (y ∷ xs) zero x d there = same_Some y x there
place_is (y ∷ xs) (suc k) x d there = place_is xs k x d there

place_at : {A : Type 0} (xs : List A) (k : ℕ) (x d : A) → k < length xs → slice_index_or xs k d ≡ x → slice_get xs k ≡ Some x
place_at [] k x d below is = absurd (omega (arith, below))
place_at (y ∷ xs) zero x d below is = ap Some is
place_at (y ∷ xs) (suc k) x d below is = place_at xs k x d (omega (arith, below)) is

-- ---- One endpoint

-- an endpoint keeps this of another
record Keeps (index : ℕ) (group : GroupWire) (old new : DeviceWire) : Type 0 where
  disabled : old.is_disabled ≡ true → new.is_disabled ≡ true
  bears : slice_get old.groups index ≡ Some (Some group) → slice_get new.groups index ≡ Some (Some group)

module _ (wire : Wire) (endpoint index : ℕ) (group : GroupWire) (stuck : IsStuck wire endpoint index group) where
  -- the part of the endpoint in another world
  in_part : (other : Wire) (part : EndpointWire) → slice_get other.parts endpoint ≡ Some part → Keeps index group stuck.part.device part.device
      → IsStuck other endpoint index group
  in_part other part there keeps = record {
    part = part;
    there = there;
    disabled = keeps.disabled stuck.disabled;
    bears = keeps.bears stuck.bears;
    unfinished = stuck.unfinished;
  }

  same : Keeps index group stuck.part.device stuck.part.device
  same = record { disabled = λ h. h; bears = λ h. h }

  -- a world of the same parts
  in_same : (other : Wire) → other.parts ≡ wire.parts → IsStuck other endpoint index group
  in_same other is = in_part other stuck.part (ap (λ parts. slice_get parts endpoint) is ∙ stuck.there) same

  pub own_part : part_of wire endpoint ≡ stuck.part
  own_part = place_is wire.parts endpoint stuck.part idle stuck.there

  -- a world with another part of some endpoint, which keeps this where it is the endpoint's own
  in_world : (other : Wire) (at : ℕ) (part : EndpointWire) → other.parts ≡ slice_set wire.parts at part
      → (at ≡ endpoint → Keeps index group (part_of wire at).device part.device) → IsStuck other endpoint index group
  in_world other at part is keeps = by_place (ℕ_cases at endpoint)
    where
      by_place : (at ≡ endpoint) ⊎ (at ≢ endpoint) → IsStuck other endpoint index group
      by_place (inl own) =
          let there : slice_get other.parts endpoint ≡ Some part =
          ap (λ parts. slice_get parts endpoint) is ∙ ap (λ k. slice_get (slice_set wire.parts k part) endpoint) own
          ∙ set_own wire.parts endpoint stuck.part part stuck.there in
          in_part other part there
          (subst (λ (old : EndpointWire). Keeps index group old.device part.device) (ap (part_of wire) own ∙ own_part) (keeps own))
      by_place (inr apart) =
          in_part other stuck.part (ap (λ parts. slice_get parts endpoint) is ∙ set_other wire.parts at endpoint part apart ∙ stuck.there) same

  -- one that keeps its device
  in_unit : (other : Wire) (at : ℕ) (part : EndpointWire) → other.parts ≡ slice_set wire.parts at part → part.device ≡ (part_of wire at).device
      → IsStuck other endpoint index group
  in_unit other at part is same_device =
      in_world other at part is (λ own. subst (λ (device : DeviceWire). Keeps index group (part_of wire at).device device) (sym same_device)
      (record { disabled = λ h. h; bears = λ h. h }))

  -- one whose device keeps the groups and whether page requests are disabled
  in_device : (other : Wire) (at : ℕ) (device : DeviceWire) → other.parts ≡ slice_set wire.parts at (record (part_of wire at) { device = device })
      → device.groups ≡ (device_of wire at).groups → device.is_disabled ≡ (device_of wire at).is_disabled → IsStuck other endpoint index group
  in_device other at device is groups disabled =
      in_world other at (record (part_of wire at) { device = device }) is (λ own. record {
        disabled = λ h. disabled ∙ h;
        bears = λ h. ap (λ gs. slice_get gs index) groups ∙ h;
      })

-- ---- Moves that change a device

either_device : (test : Bool) (one other : EndpointWire) (device : DeviceWire) → one.device ≡ device → other.device ≡ device
    → (if test then one else other).device ≡ device
either_device true one other device is same = is
either_device false one other device is same = same

-- an unmapping submits to units alone
unmapped_part : (wire : Wire) (space page count order k : ℕ) → (part_unmapped wire space page count order k).device ≡ (part_of wire k).device
unmapped_part wire space page count order k = either_device (submits wire space k) _ (part_of wire k) (part_of wire k).device refl refl

pasid_groups : (pasid : ℕ) (state : PasidState) (device : DeviceWire) → (with_pasid pasid state device).groups ≡ device.groups
pasid_groups zero state device = refl
pasid_groups (suc place) state device = refl

pasid_disabled : (pasid : ℕ) (state : PasidState) (device : DeviceWire) → (with_pasid pasid state device).is_disabled ≡ device.is_disabled
pasid_disabled zero state device = refl
pasid_disabled (suc place) state device = refl

-- a group that isn't finished doesn't get stale
unfinished_same : (test : Bool) (state : GroupState) → is_collecting state ≡ true → stale_if test state ≡ state
unfinished_same false state is = refl
unfinished_same true Collecting is = refl
unfinished_same true Awaiting is = absurd (cc is)
unfinished_same true Stale is = absurd (cc is)
unfinished_same true Closed is = absurd (cc is)

stale_same : (pasid : ℕ) (group : GroupWire) → is_collecting group.state ≡ true → stale_of pasid (Some group) ≡ Some group
stale_same pasid group is = ap (λ (state : GroupState). Some (record group { state = state })) (unfinished_same (group.pasid == pasid) group.state is)

unmapped_stays : (wire : Wire) (endpoint index : ℕ) (group : GroupWire) (space page count order : ℕ) → IsStuck wire endpoint index group
    → IsStuck (moved wire (Move.Unmap space page count order)) endpoint index group
unmapped_stays wire endpoint index group space page count order stuck =
    let f = part_unmapped wire space page count order in
    let n = length wire.parts in
    let low : endpoint < n = slice_get_within wire.parts endpoint stuck.part stuck.there in
    let inside : endpoint < length (tabulate n f) = subst (λ m. endpoint < m) (sym (tabulate_length n f)) low in
    let there : slice_get (tabulate n f) endpoint ≡ Some (f endpoint) =
    place_at (tabulate n f) endpoint (f endpoint) idle inside (tabulate_at n f endpoint idle low) in
    let device : (f endpoint).device ≡ stuck.part.device =
    unmapped_part wire space page count order endpoint ∙ ap (λ (part : EndpointWire). part.device) (own_part wire endpoint index group stuck) in
    in_part wire endpoint index group stuck (moved wire (Move.Unmap space page count order)) (f endpoint) there
    (subst (λ (new : DeviceWire). Keeps index group stuck.part.device new) (sym device) (same wire endpoint index group stuck))

quit_stays : (wire : Wire) (endpoint index : ℕ) (group : GroupWire) (at pasid : ℕ) → IsStuck wire endpoint index group
    → IsStuck (moved wire (Move.Quit at pasid)) endpoint index group
quit_stays wire endpoint index group at pasid stuck =
    let old = device_of wire at in
    let between : DeviceWire = record old { groups = map (stale_of pasid) old.groups } in
    in_world wire endpoint index group stuck (moved wire (Move.Quit at pasid)) at (record (part_of wire at) { device = with_pasid pasid Off between }) refl
    (λ own. record {
      disabled = λ h. pasid_disabled pasid Off between ∙ h;
      bears = λ h. ap (λ gs. slice_get gs index) (pasid_groups pasid Off between) ∙ slice_get-map (stale_of pasid) old.groups index
          ∙ ap (option_map (stale_of pasid)) h ∙ ap Some (stale_same pasid group stuck.unfinished);
    })

answered_stays : (wire : Wire) (endpoint index : ℕ) (group : GroupWire) (at message own : ℕ) (code : Code) → IsStuck wire endpoint index group
    → (at ≡ endpoint → own ≢ index) → IsStuck (moved wire (Move.Answered at message own code)) endpoint index group
answered_stays wire endpoint index group at message own code stuck other =
    let old = device_of wire at in
    in_world wire endpoint index group stuck (moved wire (Move.Answered at message own code)) at
    (record (part_of wire at) { device = record old { groups = slice_set old.groups own None; is_disabled = old.is_disabled || disables code } }) refl
    (λ here. record {
      disabled = λ h. ap (λ b. b || disables code) h;
      bears = λ h. set_other old.groups own index None (other here) ∙ h;
    })

-- ---- All moves

pub stays : StaysByMoves
stays wire Move.NewSpace endpoint index group stuck other = in_same wire endpoint index group stuck (moved wire Move.NewSpace) refl
stays wire (Move.DropSpace space) endpoint index group stuck other = in_same wire endpoint index group stuck (moved wire (Move.DropSpace space)) refl
stays wire (Move.Map space page frame write) endpoint index group stuck other =
    in_same wire endpoint index group stuck (moved wire (Move.Map space page frame write)) refl
stays wire Move.NewBinding endpoint index group stuck other = in_same wire endpoint index group stuck (moved wire Move.NewBinding) refl
stays wire (Move.Bind at space binding pasid) endpoint index group stuck other =
    in_same wire endpoint index group stuck (moved wire (Move.Bind at space binding pasid)) refl
stays wire (Move.Stop at binding pasid) endpoint index group stuck other =
    in_same wire endpoint index group stuck (moved wire (Move.Stop at binding pasid)) refl
stays wire (Move.Quieten binding) endpoint index group stuck other = in_same wire endpoint index group stuck (moved wire (Move.Quieten binding)) refl
stays wire (Move.Release binding) endpoint index group stuck other = in_same wire endpoint index group stuck (moved wire (Move.Release binding)) refl
stays wire (Move.NewJob job) endpoint index group stuck other = in_same wire endpoint index group stuck (moved wire (Move.NewJob job)) refl
stays wire Move.Hand endpoint index group stuck other = in_same wire endpoint index group stuck (moved wire Move.Hand) refl
stays wire (Move.Hold worker job) endpoint index group stuck other = in_same wire endpoint index group stuck (moved wire (Move.Hold worker job)) refl
stays wire (Move.LetGo worker) endpoint index group stuck other = in_same wire endpoint index group stuck (moved wire (Move.LetGo worker)) refl
stays wire Move.Discard endpoint index group stuck other = in_same wire endpoint index group stuck (moved wire Move.Discard) refl
stays wire (Move.Complete at message answer) endpoint index group stuck other =
    in_same wire endpoint index group stuck (moved wire (Move.Complete at message answer)) refl
stays wire (Move.Mark at message binding) endpoint index group stuck other =
    in_same wire endpoint index group stuck (moved wire (Move.Mark at message binding)) refl
stays wire (Move.Ignore message) endpoint index group stuck other = in_same wire endpoint index group stuck (moved wire (Move.Ignore message)) refl
stays wire (Move.Unmap space page count order) endpoint index group stuck other = unmapped_stays wire endpoint index group space page count order stuck
stays wire (Move.Drain at binding) endpoint index group stuck other =
    in_unit wire endpoint index group stuck (moved wire (Move.Drain at binding)) at _ refl refl
stays wire (Move.Invalidate at binding pasid) endpoint index group stuck other =
    in_unit wire endpoint index group stuck (moved wire (Move.Invalidate at binding pasid)) at _ refl refl
stays wire (Move.Send at itag pasid extent) endpoint index group stuck other =
    in_unit wire endpoint index group stuck (moved wire (Move.Send at itag pasid extent)) at _ refl refl
stays wire (Move.Pass at cookie) endpoint index group stuck other = in_unit wire endpoint index group stuck (moved wire (Move.Pass at cookie)) at _ refl refl
stays wire (Move.File at binding request) endpoint index group stuck other =
    in_unit wire endpoint index group stuck (moved wire (Move.File at binding request)) at _ refl refl
stays wire (Move.Reset at) endpoint index group stuck other = in_unit wire endpoint index group stuck (moved wire (Move.Reset at)) at _ refl refl
stays wire (Move.Respond job pasid code) endpoint index group stuck other =
    in_unit wire endpoint index group stuck (moved wire (Move.Respond job pasid code)) job.endpoint _ refl refl
stays wire (Move.Count at message vector count) endpoint index group stuck other =
    in_unit wire endpoint index group stuck (moved wire (Move.Count at message vector count)) at _ refl refl
stays wire (Move.Arrive at message request) endpoint index group stuck other =
    in_unit wire endpoint index group stuck (moved wire (Move.Arrive at message request)) at _ refl refl
stays wire (Move.Reopen at message) endpoint index group stuck other =
    in_unit wire endpoint index group stuck (moved wire (Move.Reopen at message)) at _ refl refl
stays wire (Move.Ask at pasid page tag) endpoint index group stuck other =
    in_device wire endpoint index group stuck (moved wire (Move.Ask at pasid page tag)) at _ refl refl refl
stays wire (Move.Begin at slot translation) endpoint index group stuck other =
    in_device wire endpoint index group stuck (moved wire (Move.Begin at slot translation)) at _ refl refl refl
stays wire (Move.End at slot) endpoint index group stuck other = in_device wire endpoint index group stuck (moved wire (Move.End at slot)) at _ refl refl refl
stays wire (Move.Evict at pasid page) endpoint index group stuck other =
    in_device wire endpoint index group stuck (moved wire (Move.Evict at pasid page)) at _ refl refl refl
stays wire (Move.Finish at vector count) endpoint index group stuck other =
    in_device wire endpoint index group stuck (moved wire (Move.Finish at vector count)) at _ refl refl refl
stays wire (Move.Keep at message tag translation) endpoint index group stuck other =
    in_device wire endpoint index group stuck (moved wire (Move.Keep at message tag translation)) at _ refl refl refl
stays wire (Move.Forget at message tag) endpoint index group stuck other =
    in_device wire endpoint index group stuck (moved wire (Move.Forget at message tag)) at _ refl refl refl
stays wire (Move.Take at message itag pasid extent) endpoint index group stuck other =
    in_device wire endpoint index group stuck (moved wire (Move.Take at message itag pasid extent)) at _ refl refl refl
stays wire (Move.StartArrives at message pasid) endpoint index group stuck other =
    in_device wire endpoint index group stuck (moved wire (Move.StartArrives at message pasid)) at (with_pasid pasid On (device_of wire at)) refl
    (pasid_groups pasid On (device_of wire at)) (pasid_disabled pasid On (device_of wire at))
stays wire (Move.StopArrives at message pasid) endpoint index group stuck other =
    in_device wire endpoint index group stuck (moved wire (Move.StopArrives at message pasid)) at (with_pasid pasid Ending (device_of wire at)) refl
    (pasid_groups pasid Ending (device_of wire at)) (pasid_disabled pasid Ending (device_of wire at))
stays wire (Move.Quit at pasid) endpoint index group stuck other = quit_stays wire endpoint index group at pasid stuck
stays wire (Move.Answered at message own code) endpoint index group stuck other = answered_stays wire endpoint index group at message own code stuck other
stays wire (Move.ResetArrives at message) endpoint index group stuck other =
    in_world wire endpoint index group stuck (moved wire (Move.ResetArrives at message)) at _ refl (λ own_endpoint. absurd (other own_endpoint))
stays wire (Move.Group at pasid own page read write last) endpoint index group stuck other =
    in_world wire endpoint index group stuck (moved wire (Move.Group at pasid own page read write last)) at _ refl (λ own_endpoint. absurd (other own_endpoint))
stays wire (Move.Request at pasid own page read write last) endpoint index group stuck other =
    in_world wire endpoint index group stuck (moved wire (Move.Request at pasid own page read write last)) at _ refl
    (λ own_endpoint. absurd (other own_endpoint))
