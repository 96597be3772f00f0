-- Translation requests, seen.
use Rattle.std.proofs.Common.{◌≡◌, refl, ap, sym, ◌∙◌, ℕ, ◌^◌}
use Rattle.std.specs.Prelude.{not, is_none, [], ◌∷◌}
use Rattle.std.proofs.lemmas.List.{map-set}
use Rattle.sva_step.specs.declared.refusals.Refusal.TheVariants as refusal
use Rattle.sva_endpoint.specs.declared.request_tags.RequestTag.{RequestTag}
use Rattle.sva_endpoint.specs.declared.request_tags.RequestTag.TheVariants.{Free, Out, Doomed}
use Rattle.sva_endpoint.specs.RequestTags.{is_free}
use Rattle.sva_endpoint.specs.Tables.{Tables}
use Rattle.sva_endpoint.specs.Steps.{lowest_tag}
use Rattle.sva_parts_by_labels.specs.Device.{tag_seen, device_seen}
use Rattle.sva_endpoint.specs.Laws.{IsSound}
use Rattle.sva_parts_by_labels.specs.DeviceLaws.{RequestIsSeen}
use Rattle.sva_parts_by_labels.proofs.Tables.{lowest_place, place_there}
use Rattle.sva_parts_by_labels.proofs.Pasids.{started_seen, beyond}

free_seen : (tag : RequestTag) → is_none (tag_seen tag) ≡ is_free tag
free_seen Free = refl
free_seen (Out t q) = refl
free_seen (Doomed t q) = refl

pub request_is_seen : (s : Tables) (t q : ℕ) → IsSound s → RequestIsSeen s t q
request_is_seen s t q h =
    let lowest = lowest_place tag_seen is_free free_seen s.tags in
    let page = beyond (2 ^ 36) q in
    let started = sym (started_seen s t h) in
    let free = sym (ap is_none lowest) in
    record {
      refusals = λ i. (page i, refusal.PageRange) ∷ (not (started i), refusal.NotStarted) ∷ (free i, refusal.NoTag) ∷ [];
      tag = λ there. lowest ∙ place_there is_free s.tags (ap is_none (sym lowest) ∙ there);
      after = λ i. record (device_seen s) { tags = map-set tag_seen s.tags (lowest_tag s) (Out t q) i };
    }
