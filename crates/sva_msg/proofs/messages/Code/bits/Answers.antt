use Rattle.std.proofs.Common.{rules}
use Rattle.sva_msg.proofs.messages.Code.bits.Goals as goal

pub returns-in-ResponseFailure : goal.returns-in-ResponseFailure
returns-in-ResponseFailure c = search rules
