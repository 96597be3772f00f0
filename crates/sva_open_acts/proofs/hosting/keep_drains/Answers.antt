use Rattle.std.proofs.Common.{rules}
use Rattle.std.proofs.lemmas.Fn.{filter_same}
use Rattle.sva_open.specs.Host.{is_drain_of_any}
use Rattle.sva_open_acts.proofs.hosting.keep_drains.Goals as goal

pub returns : goal.returns
returns c = filter_same _ is_drain_of_any _ (λ one keep f' called. (search rules, search rules)) _ _ c.retain.ensures.filtered
