use Rattle.std.proofs.Common.{rules}
use Rattle.std.proofs.lemmas.Fn.{filter_same}
use Rattle.sva_open.specs.Units.{is_no_entry_of}
use Rattle.sva_open_acts.proofs.pumping.drop_entry.Goals as goal

pub returns : goal.returns
returns c = filter_same _ (is_no_entry_of c.args.pasid) _ (λ one keep f' called. (search rules, search rules)) _ _ c.retain.ensures.filtered
