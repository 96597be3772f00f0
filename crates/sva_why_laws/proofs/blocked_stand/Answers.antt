use Rattle.sva_why_laws.proofs.Blocked
use Rattle.sva_why_laws.proofs.blocked_stand.Goals as goal

pub returns : goal.returns
returns c = record {
  itag_stands = Blocked.itag_stands;
  requests_stand = Blocked.requests_stand;
  none_is_free = Blocked.none_is_free;
  each_itag_stands = Blocked.each_itag_stands;
}
