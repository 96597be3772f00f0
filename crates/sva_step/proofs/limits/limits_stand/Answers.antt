use Rattle.std.proofs.Common.{refl}
use Rattle.sva_step.proofs.limits.limits_stand.Goals as goal

pub returns : goal.returns
returns c = record {
  endpoints_stand = refl;
  frames_stand = refl;
  workers_stand = refl;
  page_numbers_stand = refl;
  label_numbers_stand = refl;
  spaces_stand = refl;
  mapped_stand = refl;
  pages_stand = refl;
  order_stands = refl;
  pasids_stand = refl;
  pasid_places_stand = refl;
  queue_places_stand = refl;
  itags_stand = refl;
  completions_stand = refl;
  request_tags_stand = refl;
  cached_stand = refl;
  use_slots_stand = refl;
  page_requests_stand = refl;
  groups_stand = refl;
}
