use Rattle.std.proofs.Common.{rules}
use Rattle.sva_host_state.proofs.replying.answer_of.Goals as goal

pub returns-in-InvalidRequest : goal.returns-in-InvalidRequest
returns-in-InvalidRequest c = search rules
