use Rattle.std.proofs.Common.{ap, ◌∙◌}
use Rattle.std.specs.Prelude.{is_some}
use Rattle.sva_address_spaces.proofs.Ranges.{some_found}
use Rattle.sva_address_spaces.proofs.pages.is_some_mapped.Goals as goal

pub returns : goal.returns
returns c = c.is_some.ensures ∙ ap is_some c.first_between.ensures ∙ some_found c.args.space.now c.args.page c.args.count c.len-pages.ensures.rising
