use Rattle.std.proofs.Common.{rules}
use Rattle.std.proofs.lemmas.Fn.{filter_same}
use Rattle.sva_open.specs.Units.{is_other_sent}
use Rattle.sva_open_acts.proofs.expiring.keep_sent.Goals as goal

pub returns : goal.returns
returns c = filter_same _ (is_other_sent c.args.itag) _ (λ one keep f' called. (search rules, search rules)) _ _ c.retain.ensures.filtered
