use Rattle.sva_why.proofs.Stands
use Rattle.sva_why.proofs.laws.lines_stand.Goals as goal

pub returns : goal.returns
returns c = record {
  group_stands = Stands.group_stands;
  tag_stands = Stands.tag_stands;
  use_stands = Stands.use_stands;
  older_stands = Stands.older_stands;
  wait_of_itag_stands = Stands.wait_of_itag_stands;
  itag_stands = Stands.itag_stands;
  none_stands = Stands.none_stands;
  binding_stands = Stands.binding_stands;
  live_stands = Stands.live_stands;
  lost_stands = Stands.lost_stands;
  marker_stands = Stands.marker_stands;
  drain_stands = Stands.drain_stands;
  open_stands = Stands.open_stands;
  invalidation_stands = Stands.invalidation_stands;
  page_stands = Stands.page_stands;
  use_alike = Stands.use_alike;
  fault_alike = Stands.fault_alike;
  off_stands = Stands.off_stands;
  ending_stands = Stands.ending_stands;
  unit_of_pages_stands = Stands.unit_of_pages_stands;
  unit_of_binding_stands = Stands.unit_of_binding_stands;
  unit_stands = Stands.unit_stands;
  request_stands = Stands.request_stands;
}
