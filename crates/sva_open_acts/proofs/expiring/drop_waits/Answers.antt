use Rattle.std.proofs.Common.{rules}
use Rattle.std.proofs.lemmas.Fn.{filter_same}
use Rattle.sva_open.specs.Units.{isnt_wait}
use Rattle.sva_open_acts.proofs.expiring.drop_waits.Goals as goal

pub returns : goal.returns
returns c = filter_same _ isnt_wait _ (λ one keep f' called. (search rules, search rules)) _ _ c.retain.ensures.filtered
