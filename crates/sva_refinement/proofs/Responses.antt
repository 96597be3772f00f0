-- A response in flight finds by its index a group that is finished.
use Rattle.std.proofs.Common.{◌≡◌, refl, ap, sym, subst, ◌∙◌, ℕ, ◌<◌, true, false, arith}
use Rattle.std.specs.Prelude.{Option, Some, None, option_map, slice_get}
use Rattle.std.proofs.lemmas.Option.{slice_get-get_or}
use Rattle.sva_model.specs.Words as words
use Rattle.sva_model.specs.Words.{tabulate}
use Rattle.sva_model.specs.Message.{Code, Message}
use Rattle.sva_model.specs.Message.Message.{ResponseMessage}
use Rattle.sva_model.specs.State.{GroupState, HostGroupState, Subject, World}
use Rattle.sva_model.specs.State.HostGroupState.{Replied}
use Rattle.sva_model.specs.State.Subject.{StartOf, StopOf, FunctionReset, CompletionOf, InvalidateOf, ResponseOf, RequestOf, InvalidatedOf, PageRequestOf}
use Rattle.sva_model.specs.State.Subject.{MarkerOf, ResetDone}
use Rattle.sva_model.specs.States.{is_collecting}
use Rattle.sva_model.specs.Steps.{world_after}
use Rattle.sva_model.specs.Wire.{FlightWire, group_wire, wire}
use Rattle.sva_labels.specs.Finding.{device_of}
use Rattle.sva_labels.proofs.Lists.{tabulate_at, tabulate_length}
use Rattle.sva_laws.specs.LabelLaws.{IsCarried}
use Rattle.sva_laws.specs.UnderWay.{is_answerable}
use Rattle.sva_laws.proofs.Carried.{always_carried}
use Rattle.sva_laws.proofs.Groups.{answerable_outstanding, is_filed_group}
use Rattle.sva_laws.proofs.Invariant.{Invariant}
use Rattle.sva_laws.proofs.Runs.{always}
use Rattle.sva_refinement.specs.Responses.{AlwaysFindsFinished, FindsFinished}
use Rattle.sva_refinement.proofs.EndpointViews.{device_seen}
use Rattle.sva_refinement.proofs.SoundFlights.{IsFlyingAt, flying_at}

-- what stands at a place of a table
at_place : {A : Type 0} (n : ℕ) (f : ℕ → A) (k : ℕ) → k < n → slice_get (tabulate n f) k ≡ Some (f k)
at_place n f k l =
    slice_get-get_or (tabulate n f) k (f k) (subst (λ z. k < z) (sym (tabulate_length n f)) l) ∙ ap Some (tabulate_at n f k (f k) l)

not_collecting : (x : GroupState) → is_answerable x ≡ true → is_collecting x ≡ false
not_collecting x h = grind arith

replied_filed : (x : HostGroupState) → x ≡ Replied → is_filed_group x ≡ true
replied_filed x h = ap is_filed_group h

index_by : Message → ℕ
index_by (ResponseMessage pasid index code) = index
index_by other = 0

pasid_by : Message → ℕ
pasid_by (ResponseMessage pasid index code) = pasid
pasid_by other = 0

module _ (w : World) (i : Invariant w) (ca : (e : ℕ) → IsCarried w.mappings (w.part e)) (e c pasid index : ℕ) (code : Code) (f : FlightWire)
    (at : f.endpoint ≡ e) (says : (w.part e).carried c ≡ ResponseMessage pasid index code) where
  answered : (g : ℕ) (own : Code) → (w.part e).message c ≡ Some (ResponseOf g own) → FindsFinished (wire w) f pasid index
  unfolding index_by pasid_by
  answered g own h =
      let p = w.part e in
      let response = (i.parts e).groups.response c g own h in
      let carried = sym says ∙ (ca e).response c g own h in
      let same : index ≡ p.index g = ap index_by carried in
      let under : pasid ≡ p.pasid (p.filed_under g) = ap pasid_by carried in
      let bears = (i.parts e).groups.bears_index g (answerable_outstanding (p.group g) response.0) in
      let low = (i.parts e).groups.index_low (p.index g) g bears in
      let near = (i.parts e).near c (ap words.is_some h) in
      record {
        group = group_wire p g;
        bears =
            ap (λ z. slice_get (device_of (wire w) z).groups index) at
            ∙ ap (λ z. slice_get (device_of (wire w) e).groups z) same
            ∙ ap (λ d. slice_get d.groups (p.index g)) (device_seen w e near)
            ∙ at_place 32 (λ x. option_map (group_wire p) (p.at_index x)) (p.index g) low
            ∙ ap (λ o. Some (option_map (group_wire p) o)) bears;
        own = ap p.pasid (sym ((i.parts e).groups.under g (replied_filed (p.host_group g) response.1))) ∙ sym under;
        finished = not_collecting (p.group g) response.0;
      }

  found_by : (o : Option Subject) → (w.part e).message c ≡ o → words.is_some o ≡ true → FindsFinished (wire w) f pasid index
  found_by None h s = absurd (cc)
  found_by (Some (StartOf b)) h s = absurd (cc (sym says ∙ (ca e).start c b h))
  found_by (Some (StopOf b)) h s = absurd (cc (sym says ∙ (ca e).stop c b h))
  found_by (Some FunctionReset) h s = absurd (cc (sym says ∙ (ca e).reset c h))
  found_by (Some (CompletionOf r (Some m))) h s = absurd (cc (sym says ∙ (ca e).completion c r m h))
  found_by (Some (CompletionOf r None)) h s = absurd (cc (sym says ∙ (ca e).no_translation c r h))
  found_by (Some (InvalidateOf k)) h s = absurd (cc (sym says ∙ (ca e).invalidate c k h))
  found_by (Some (ResponseOf g own)) h s = answered g own h
  found_by (Some (RequestOf r)) h s = absurd (cc (sym says ∙ (ca e).request c r h))
  found_by (Some (InvalidatedOf names)) h s = absurd (cc (sym says ∙ ((ca e).invalidated c names h).2))
  found_by (Some (PageRequestOf r)) h s = absurd (cc (sym says ∙ (ca e).page_request c r h))
  found_by (Some (MarkerOf b)) h s = absurd (cc (sym says ∙ (ca e).marker c b h))
  found_by (Some ResetDone) h s = absurd (cc (sym says ∙ (ca e).reset_done c h))

finds : (w : World) → Invariant w → ((e : ℕ) → IsCarried w.mappings (w.part e)) → (position : ℕ) (f : FlightWire) (pasid index : ℕ) (code : Code)
    → IsFlyingAt w position f → f.message ≡ ResponseMessage pasid index code → FindsFinished (wire w) f pasid index
finds w i ca position f pasid index code x is =
    let e = w.link_of x.of in
    found_by w i ca e x.of pasid index code f (ap (λ z. z.endpoint) x.seen) (sym (ap (λ z. z.message) x.seen) ∙ is) ((w.part e).message x.of) refl x.passes

pub always_finds_finished : AlwaysFindsFinished
always_finds_finished rule config steps position f pasid index code stands is =
    let w = world_after rule config steps in
    finds w (always rule config steps) (always_carried rule config steps) position f pasid index code (flying_at w position f stands) is
