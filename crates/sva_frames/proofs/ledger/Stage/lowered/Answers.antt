use Rattle.std.proofs.Common.{rules}
use Rattle.sva_frames.proofs.ledger.Stage.lowered.Goals as goal

pub returns-in-Withheld : goal.returns-in-Withheld
returns-in-Withheld c = search rules
