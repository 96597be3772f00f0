use Rattle.sva_itags.proofs.Always.{always_tags, freed_at_its_count}
use Rattle.sva_itags.proofs.itags.laws.Goals as goal

pub returns-clause-tags : goal.returns-clause-tags
returns-clause-tags c = always_tags

pub returns-clause-freed : goal.returns-clause-freed
returns-clause-freed c = freed_at_its_count
