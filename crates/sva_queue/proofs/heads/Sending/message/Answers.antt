use Rattle.std.proofs.Common.{rules}
use Rattle.sva_queue.proofs.heads.Sending.message.Goals as goal

pub returns : goal.returns
returns c = search rules
