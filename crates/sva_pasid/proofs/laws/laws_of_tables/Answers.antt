use Rattle.sva_pasid.proofs.ShareLemmas.{lowest_is_least}
use Rattle.sva_pasid.proofs.CallLemmas.{always_table, shared_by_space, always_awaited, kept_until_end, lives_by_table, taken_back, reset_by_moves}
use Rattle.sva_pasid.proofs.laws.laws_of_tables.Goals as goal

pub returns-clause-table : goal.returns-clause-table
returns-clause-table c = always_table

pub returns-clause-shared : goal.returns-clause-shared
returns-clause-shared c = shared_by_space

pub returns-clause-awaited : goal.returns-clause-awaited
returns-clause-awaited c = always_awaited

pub returns-clause-kept : goal.returns-clause-kept
returns-clause-kept c = kept_until_end

pub returns-clause-lives : goal.returns-clause-lives
returns-clause-lives c = lives_by_table

pub returns-clause-taken_back : goal.returns-clause-taken_back
returns-clause-taken_back c = taken_back

pub returns-clause-reset : goal.returns-clause-reset
returns-clause-reset c = reset_by_moves

pub returns-clause-lowest : goal.returns-clause-lowest
returns-clause-lowest c = lowest_is_least
