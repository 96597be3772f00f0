-- The ITags as they are seen: which are free, and one more that is busy.
use Rattle.std.proofs.Common.{◌≡◌, ℕ, ◌+◌, cond, nat_lt, Option, Some, None, List, [], ◌∷◌, length, map, is_some, is_none, refl, ap, ap₂}
use Rattle.std.specs.Prelude.{not, option_map, slice_set}
use Rattle.std.specs.List.{list_any, position_or_len}
use Rattle.std.proofs.lemmas.List.{length-map, map-set}
use Rattle.sva_itags.specs.Tags.{lowest_free}
use Rattle.sva_itags.specs.declared.itags.Busy.{Busy}
use Rattle.sva_itags.specs.declared.itags.Busy.TheVariants as place
use Rattle.sva_model.specs.Wire.{BusyWire}
use Rattle.sva_model.specs.Wire.BusyWire.{Fresh}
use Rattle.sva_queue.specs.Queue.{is_idle}
use Rattle.sva_labels.specs.Finding.{lowest_label}
use Rattle.sva_iommu.specs.Seen.{busy_seen}

abbrev pub places_seen : List (Option Busy) → List (Option BusyWire)
places_seen tags = map (option_map busy_seen) tags

pub places_length : (tags : List (Option Busy)) → length (places_seen tags) ≡ length tags
places_length tags = length-map tags (option_map busy_seen)

first_free : (tags : List (Option Busy)) → position_or_len is_none (places_seen tags) ≡ position_or_len is_none tags
first_free [] = refl
first_free (None ∷ tags) = refl
first_free (Some b ∷ tags) = ap (λ n. 1 + n) (first_free tags)

-- the lowest that is free
pub lowest_seen : (tags : List (Option Busy)) → lowest_label (places_seen tags) ≡ lowest_free tags
lowest_seen tags = ap₂ (λ n m. cond (nat_lt n m) (Some n) None) (first_free tags) (places_length tags)

-- whether none is busy
pub idle_seen : (tags : List (Option Busy)) → not (list_any is_some (places_seen tags)) ≡ is_idle tags
idle_seen [] = refl
idle_seen (None ∷ tags) = idle_seen tags
idle_seen (Some b ∷ tags) = refl

-- one more that is busy
pub fresh_seen : (tags : List (Option Busy)) (t : ℕ) → places_seen (slice_set tags t (Some place.Fresh)) ≡ slice_set (places_seen tags) t (Some Fresh)
fresh_seen tags t = map-set (option_map busy_seen) tags t (Some place.Fresh)
