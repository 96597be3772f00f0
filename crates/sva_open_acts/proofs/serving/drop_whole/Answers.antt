use Rattle.std.proofs.Common.{rules}
use Rattle.std.proofs.lemmas.Fn.{filter_same}
use Rattle.sva_open.specs.Host.{isnt_whole_under}
use Rattle.sva_open_acts.proofs.serving.drop_whole.Goals as goal

pub returns : goal.returns
returns c = filter_same _ (isnt_whole_under c.args.pasid) _ (λ one keep f' called. (search rules, search rules)) _ _ c.retain.ensures.filtered
