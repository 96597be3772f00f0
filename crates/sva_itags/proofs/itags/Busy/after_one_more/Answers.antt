use Rattle.std.proofs.Common.{rules}
use Rattle.sva_itags.proofs.itags.Busy.after_one_more.Goals as goal

pub returns-in-Fresh : goal.returns-in-Fresh
returns-in-Fresh c = search rules
