use Rattle.std.proofs.Common.{rules}
use Rattle.std.proofs.lemmas.Fn.{filter_same}
use Rattle.sva_open.specs.Acts.{is_other_page}
use Rattle.sva_open_acts.proofs.acting.drop_page.Goals as goal

pub returns : goal.returns
returns c = filter_same _ (is_other_page c.args.space c.args.page) _ (λ one keep f' called. (search rules, search rules)) _ _ c.retain.ensures.filtered
