use Rattle.std.proofs.Common.{◌≡◌, ◌++◌}
use Rattle.sva_space.proofs.reading.listed.Given as goal

abbrev pub invariant-loop-page : goal.invariant-loop-page
invariant-loop-page l = l.mappings.items ++ l.page-iterator ≡ l.pages.entries
