use Rattle.std.proofs.Common.{rules}
use Rattle.sva_msg.proofs.messages.Message.is_down.Goals as goal

pub returns : goal.returns
returns c = search rules
