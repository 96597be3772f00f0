use Rattle.sva_space.proofs.Mappings.{rising, finite_map, owned, lowest_first}
use Rattle.sva_space.proofs.Ranges.{lowest_between}
use Rattle.sva_space.proofs.laws.space_laws.Goals as goal

pub returns-clause-rising : goal.returns-clause-rising
returns-clause-rising c = rising

pub returns-clause-finite_map : goal.returns-clause-finite_map
returns-clause-finite_map c = finite_map

pub returns-clause-lowest_first : goal.returns-clause-lowest_first
returns-clause-lowest_first c = lowest_first

pub returns-clause-owned : goal.returns-clause-owned
returns-clause-owned c = owned

pub returns-clause-lowest_between : goal.returns-clause-lowest_between
returns-clause-lowest_between c = lowest_between
