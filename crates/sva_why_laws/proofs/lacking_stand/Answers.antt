use Rattle.sva_why_laws.proofs.Lacking
use Rattle.sva_why_laws.proofs.lacking_stand.Goals as goal

pub returns : goal.returns
returns c = record {
  tag_stands = Lacking.tag_stands;
  running_stands = Lacking.running_stands;
  dead_stands = Lacking.dead_stands;
  job_stands = Lacking.job_stands;
  space_stands = Lacking.space_stands;
  of_mapping = Lacking.of_mapping;
  of_answer = Lacking.of_answer;
  withheld_stands = Lacking.withheld_stands;
  frame_stands = Lacking.frame_stands;
  holder_stands = Lacking.holder_stands;
  full_stands = Lacking.full_stands;
  full_of_answer_stands = Lacking.full_of_answer_stands;
  bearer_stands = Lacking.bearer_stands;
  lack_stands = Lacking.lack_stands;
  asked_stands = Lacking.asked_stands;
  evict_alike = Lacking.evict_alike;
  due_stands = Lacking.due_stands;
  worker_stands = Lacking.worker_stands;
  untaken_stands = Lacking.untaken_stands;
  request_stands = Lacking.request_stands;
  asks_stand = Lacking.asks_stand;
  response_stands = Lacking.response_stands;
  disabled_stands = Lacking.disabled_stands;
  stop_stands = Lacking.stop_stands;
  bound_stands = Lacking.bound_stands;
  unbound_stands = Lacking.unbound_stands;
  page_stands = Lacking.page_stands;
}
