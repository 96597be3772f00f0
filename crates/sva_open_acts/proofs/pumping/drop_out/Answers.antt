use Rattle.std.proofs.Common.{rules}
use Rattle.std.proofs.lemmas.Fn.{filter_same}
use Rattle.sva_open.specs.Units.{isnt_out_of}
use Rattle.sva_open_acts.proofs.pumping.drop_out.Goals as goal

pub returns : goal.returns
returns c = filter_same _ (isnt_out_of c.args.itag) _ (λ one keep f' called. (search rules, search rules)) _ _ c.retain.ensures.filtered
