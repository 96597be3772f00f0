use Rattle.std.proofs.Common.{rules}
use Rattle.std.proofs.lemmas.Fn.{filter_same}
use Rattle.sva_open.specs.World.{is_left}
use Rattle.sva_open_acts.proofs.pumping.drop_covered.Goals as goal

pub returns : goal.returns
returns c = filter_same _ (is_left c.args.scope.now) _ (λ one keep f' called. (search rules, search rules)) _ _ c.retain.ensures.filtered
