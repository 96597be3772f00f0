use Rattle.std.proofs.Common.{rules}
use Rattle.sva_host_state.proofs.sending.send.Goals as goal

pub returns-then-left-copies : goal.returns-then-left-copies
returns-then-left-copies c = search rules
