use Rattle.std.proofs.Common.{rules}
use Rattle.sva_msg.proofs.messages.CountField.new.Goals as goal

pub returns : goal.returns
returns c = search rules
